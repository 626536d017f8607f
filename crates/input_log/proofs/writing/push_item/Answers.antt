use Rattle.std.proofs.Common.{◌≡◌, ◌∷◌, ◌++◌}
use Rattle.mug_text.specs.Text.{utf8_of}
use Rattle.input_log.specs.Items.{sized}
use Rattle.input_log.proofs.Parts.{before_page, page_behind, kept_behind}
use Rattle.input_log.proofs.writing.push_item.Goals as goal

front : (c : goal.After-push_sized) → c.extend_from_slice-in-Head.new.self.items ≡ c.args.out.now.items ++ (0 ∷ (sized (utf8_of c.in-Head.base) ++ c.to_be_bytes.result))
front c =
    before_page c.args.out.now.items c.extend_from_slice.new.self.items c.push_text.new.out.items c.extend_from_slice-in-Head.new.self.items (utf8_of c.in-Head.base) c.to_be_bytes.result c.in_ok-extend_from_slice-in-Head.ensures.items c.in_ok-push_text-in-Head.ensures.ok c.in_ok-extend_from_slice-in-Head-2.ensures.items

pub returns-in_ok-extend_from_slice-in-Head-2-clause-ok : goal.returns-in_ok-extend_from_slice-in-Head-2-clause-ok
returns-in_ok-extend_from_slice-in-Head-2-clause-ok c =
    page_behind c.push_sized.result c.args.item.now c.args.out.now.items c.extend_from_slice-in-Head.new.self.items c.push_sized.new.out.items c.in-Head.base c.to_be_bytes.result c.as_slice.result.now c.in-Head.page c.in-Head.budget c.in-Head.is c.to_be_bytes.ensures c.as_slice.ensures (front c) c.push_sized.ensures.ok

pub returns-in_ok-extend_from_slice-in-Head-2-clause-kept : goal.returns-in_ok-extend_from_slice-in-Head-2-clause-kept
returns-in_ok-extend_from_slice-in-Head-2-clause-kept c =
    kept_behind c.args.out.now.items (0 ∷ (sized (utf8_of c.in-Head.base) ++ c.to_be_bytes.result)) c.extend_from_slice-in-Head.new.self.items c.push_sized.new.out.items (front c) c.push_sized.ensures.kept
