-- Turns that are over.
use Rattle.std.specs.Prelude.{All}
use Rattle.std.proofs.Common.{◌≡◌, Bool, true, false, List, [], ◌∷◌, ◌++◌, flat_map, refl, sym, ◌∙◌, ap, append_assoc, if◌then◌else◌}
use Rattle.std.proofs.lemmas.List.{append-nil}
use Rattle.std.proofs.lemmas.List.Elements.{All-head, All-push, All-tail}
use Rattle.page_inputs.specs.Inputs.{begins_turn}
use Rattle.page_inputs.specs.Turns.{in_first_turn, turn_is_over, turns}
use Rattle.page_inputs.specs.declared.input.PageInput.{PageInput}

-- where a turn is over, the turns of its inputs and of those after it are that turn and the others
pub turns_on : (first : PageInput) (others more : List PageInput) → All (λ i. begins_turn i ≡ false) others → turn_is_over more ≡ true → turns ((first ∷ others) ++ more) ≡ (first ∷ others) ∷ turns more
turns_on first [] more answers over = ap (λ (b : Bool). if b then (first ∷ []) ∷ turns more else in_first_turn first (turns more)) over
turns_on first (second ∷ others) more answers over =
    ap (λ (b : Bool). if b then (first ∷ []) ∷ turns ((second ∷ others) ++ more) else in_first_turn first (turns ((second ∷ others) ++ more))) (All-head (λ i. begins_turn i ≡ false) second others answers)
    ∙ ap (in_first_turn first) (turns_on second others more (All-tail (λ i. begins_turn i ≡ false) second others answers) over)

-- the turns of a single one
pub turns_one : (first : PageInput) (others : List PageInput) → All (λ i. begins_turn i ≡ false) others → turns (first ∷ others) ≡ (first ∷ others) ∷ []
turns_one first others answers = ap turns (sym (append-nil (first ∷ others))) ∙ turns_on first others [] answers refl

in_first_row : (input : PageInput) (ts : List (List PageInput)) → flat_map (λ turn. turn) (in_first_turn input ts) ≡ input ∷ flat_map (λ turn. turn) ts
in_first_row input [] = refl
in_first_row input (turn ∷ ts) = refl

row_of : (over : Bool) (input : PageInput) (ts : List (List PageInput)) → flat_map (λ turn. turn) (if over then (input ∷ []) ∷ ts else in_first_turn input ts) ≡ input ∷ flat_map (λ turn. turn) ts
row_of true input ts = refl
row_of false input ts = in_first_row input ts

-- in a row the inputs of all turns are the inputs
pub in_a_row : (inputs : List PageInput) → flat_map (λ turn. turn) (turns inputs) ≡ inputs
in_a_row [] = refl
in_a_row (input ∷ inputs) = row_of (turn_is_over inputs) input (turns inputs) ∙ ap (λ (l : List PageInput). input ∷ l) (in_a_row inputs)

-- the inputs of a turn that has begun stand in the first turn, whatever follows
pub first_turn : (first : PageInput) (others rest : List PageInput) → All (λ i. begins_turn i ≡ false) others → (more : List PageInput) × (later : List (List PageInput)) × (turns ((first ∷ others) ++ rest) ≡ ((first ∷ others) ++ more) ∷ later)
first_turn first others [] answers = ([], [], turns_on first others [] answers refl ∙ ap (λ (l : List PageInput). l ∷ []) (sym (append-nil (first ∷ others))))
first_turn first others (input ∷ rest) answers = by_kind first others input rest (begins_turn input) refl answers (λ more_answers. first_turn first (others ++ input ∷ []) rest more_answers)
  where
    by_kind : (first : PageInput) (others : List PageInput) (input : PageInput) (rest : List PageInput) (b : Bool) → begins_turn input ≡ b → All (λ i. begins_turn i ≡ false) others
        → (All (λ i. begins_turn i ≡ false) (others ++ input ∷ []) → (more : List PageInput) × (later : List (List PageInput)) × (turns ((first ∷ (others ++ input ∷ [])) ++ rest) ≡ ((first ∷ (others ++ input ∷ [])) ++ more) ∷ later))
        → (more : List PageInput) × (later : List (List PageInput)) × (turns ((first ∷ others) ++ input ∷ rest) ≡ ((first ∷ others) ++ more) ∷ later)
    by_kind first others input rest true begins answers on =
        ([], turns (input ∷ rest), turns_on first others (input ∷ rest) answers begins ∙ ap (λ (l : List PageInput). l ∷ turns (input ∷ rest)) (sym (append-nil (first ∷ others))))
    by_kind first others input rest false begins answers on =
        let next = on (All-push (λ i. begins_turn i ≡ false) others input answers begins) in
        (input ∷ next.0, next.1, ap (λ (l : List PageInput). turns (first ∷ l)) (sym (append_assoc others (input ∷ []) rest)) ∙ next.2 ∙ ap (λ (l : List PageInput). (first ∷ l) ∷ next.1) (append_assoc others (input ∷ []) next.0))
