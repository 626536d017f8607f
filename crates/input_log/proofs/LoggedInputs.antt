-- Inputs and the items that log them.
use Rattle.std.proofs.Common.{◌≡◌, ◌+◌, cond, List, [], ◌∷◌, length, count_by, refl, ap, arith}
use Rattle.std.proofs.lemmas.List.Sums.{sum_by-cons}
use Rattle.page_inputs.specs.declared.input.PageInput.{PageInput}
use Rattle.page_inputs.specs.declared.input.PageInput.TheVariants as input
use Rattle.input_log.specs.Inputs.{inputs_of, logged}
use Rattle.input_log.specs.Kinds.{is_input}
use Rattle.input_log.specs.declared.item.LogItem.{LogItem}
use Rattle.input_log.specs.declared.item.LogItem.TheVariants.{Head, Load, Now, Rand}

pub come_back : (inputs : List PageInput) → inputs_of (logged inputs) ≡ inputs
come_back [] = refl
come_back (input.Load t ∷ inputs) = ap (λ (l : List PageInput). input.Load t ∷ l) (come_back inputs)
come_back (input.Now v ∷ inputs) = ap (λ (l : List PageInput). input.Now v ∷ l) (come_back inputs)
come_back (input.Rand w ∷ inputs) = ap (λ (l : List PageInput). input.Rand w ∷ l) (come_back inputs)

one_more : (item : LogItem) (items : List LogItem) → count_by is_input (item ∷ items) ≡ cond (is_input item) 1 0 + count_by is_input items
one_more item items = sum_by-cons (λ x. cond (is_input x) 1 0) item items

-- the items that log an input are as many as these
pub inputs_counted : (items : List LogItem) → count_by is_input items ≡ length (inputs_of items)
inputs_counted [] = refl
inputs_counted (Head base budget page ∷ items) = omega (arith, one_more (Head base budget page) items, inputs_counted items)
inputs_counted (Load t ∷ items) = omega (arith, one_more (Load t) items, inputs_counted items)
inputs_counted (Now v ∷ items) = omega (arith, one_more (Now v) items, inputs_counted items)
inputs_counted (Rand w ∷ items) = omega (arith, one_more (Rand w) items, inputs_counted items)
