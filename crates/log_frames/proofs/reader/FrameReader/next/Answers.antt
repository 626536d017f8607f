use Rattle.std.proofs.Common.{◌≡◌, ◌<◌, ◌≤◌, length, ◌∙◌, arith, rules}
use Rattle.std.proofs.lemmas.List.{take_at}
use Rattle.log_frames.proofs.Told.{no_loss, tell_whole}
use Rattle.log_frames.proofs.reader.FrameReader.next.Goals as goal

pub returns-then-got-len-clause-told : goal.returns-then-got-len-clause-told
returns-then-got-len-clause-told g c =
    let size_is : length c.read_at-2.new.into ≡ c.in-Some.size = search rules in
    let few : c.in-Ok-read_at-2.got < length c.read_at-2.new.into = search rules in
    no_loss _ _ c.read_at-2.new.into _ _ c.in-Ok-read_at-2.got c.in-Ok.len (c.in-Ok-read_at.ensures.held ∙ c.in-Ok.ensures.held) c.in-Ok.ensures.told c.in-Ok-read_at-2.ensures.told few (omega arith)

pub returns-clause-told : goal.returns-clause-told
returns-clause-told g c =
    let size_is : length c.read_at-2.new.into ≡ c.in-Some.size = search rules in
    let cap : length c.read_at-2.new.into ≡ c.resize.new.self.len = search rules in
    let all : length c.read_at-2.new.into ≤ c.in-Ok-read_at-2.got = search rules in
    tell_whole _ _ c.read_at.new.into c.read_at-2.new.into _ _ c.self.inside.at _ _ c.in-Ok-read_at.n c.in-Ok-read_at-2.got c.in-Some.size c.in-Ok.len
    (c.in-Ok-read_at.ensures.held ∙ c.in-Ok.ensures.held) c.self.view_is (omega arith) (omega arith) (take_at c.read_at-2.new.into _ _ cap) size_is c.in-Ok.ensures.told
    (rw c.in-Ok.ensures.held at c.in-Ok-read_at.ensures.told) (search rules) c.in-Some.ensures (omega arith) c.in-Ok-read_at-2.ensures.told all
