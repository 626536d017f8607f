use Rattle.std.proofs.Common.{◌≡◌, false, true, inl}
use Rattle.arrival_file.specs.Lines.{is_later}
use Rattle.arrival_file.proofs.Splitting.{later_line, no_feed, no_field, one_line}
use Rattle.arrival_file.proofs.fields.split_line.Goals as goal

pub returns-then-is_later-clause-splits : goal.returns-then-is_later-clause-splits
returns-then-is_later-clause-splits c =
    let word = c.split_word.ensures in
    let later : is_later c.split_word.result.0.now ≡ true = cc in
    inl (later_line _ _ _ word.whole word.field word.ends later)

pub returns-in_default-clause-splits : goal.returns-in_default-clause-splits
returns-in_default-clause-splits c =
    let word = c.split_word.ensures in
    let other : is_later c.split_word.result.0.now ≡ false = cc in
    no_field _ _ _ word.whole word.field word.ends other c.in_default.ensures

pub returns-in_default-past-clause-splits : goal.returns-in_default-past-clause-splits
returns-in_default-past-clause-splits c =
    let word = c.split_word.ensures in
    let field = c.split_word-2.ensures in
    let other : is_later c.split_word.result.0.now ≡ false = cc in
    no_feed _ _ _ _ _ word.whole word.field word.ends other c.in-Some.ensures field.field _ field.whole field.ends c.in_default-past.ensures

pub returns-clause-splits : goal.returns-clause-splits
returns-clause-splits c =
    let word = c.split_word.ensures in
    let field = c.split_word-2.ensures in
    let other : is_later c.split_word.result.0.now ≡ false = cc in
    one_line _ _ _ _ _ word.whole word.field word.ends other c.in-Some.ensures field.field _ _ field.whole c.in-Some-past.ensures
