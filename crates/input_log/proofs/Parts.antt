-- A head that is appended part by part.
use Rattle.std.proofs.Common.{◌≡◌, ℕ, List, [], ◌∷◌, ◌++◌, length, take, drop, Result, Ok, Err, OnOk, sym, ap, ◌∙◌, refl, append_assoc}
use Rattle.std.proofs.lemmas.List.{take_at, take-append-drop}
use Rattle.std.specs.Int.{to_be_bytes, w64}
use Rattle.mug_text.specs.Text.{utf8_of}
use Rattle.mug_text.specs.declared.memory.NoMemory.{NoMemory}
use Rattle.input_log.specs.Items.{encoding, sized}
use Rattle.input_log.specs.declared.item.LogItem.{LogItem}
use Rattle.input_log.specs.declared.item.LogItem.TheVariants.{Head}

-- the parts before the page
pub before_page : (old first second third text number : List ℕ) → first ≡ old ++ 0 ∷ [] → second ≡ first ++ sized text → third ≡ second ++ number → third ≡ old ++ (0 ∷ (sized text ++ number))
before_page old first second third text number one two three =
    three ∙ ap (λ (l : List ℕ). l ++ number) (two ∙ ap (λ (l : List ℕ). l ++ sized text) one ∙ append_assoc old (0 ∷ []) (sized text)) ∙ append_assoc old (0 ∷ sized text) number

-- and the page behind them, where it is appended
pub page_behind : (r : Result (Unit {0}) NoMemory) (item : LogItem) (old third last base number piece page : List ℕ) (budget : ℕ) → item ≡ Head base budget page → number ≡ to_be_bytes w64 budget → piece ≡ page
    → third ≡ old ++ (0 ∷ (sized (utf8_of base) ++ number)) → OnOk r (last ≡ third ++ sized piece) → OnOk r (last ≡ old ++ encoding item)
page_behind (Ok done) item old third last base number piece page budget is same_number same_page front end =
    end ∙ ap (λ (l : List ℕ). l ++ sized piece) front
    ∙ append_assoc old (0 ∷ (sized (utf8_of base) ++ number)) (sized piece)
    ∙ ap (λ (l : List ℕ). old ++ (0 ∷ l)) (append_assoc (sized (utf8_of base)) number (sized piece) ∙ (λ i. sized (utf8_of base) ++ (same_number i ++ sized (same_page i))))
    ∙ ap (λ (i : LogItem). old ++ encoding i) (sym is)
page_behind (Err fault) item old third last base number piece page budget is same_number same_page front end = tt

-- what stood before the parts stands before what is behind them
pub kept_behind : (old more front all : List ℕ) → front ≡ old ++ more → take (length front) all ≡ front → take (length old) all ≡ old
kept_behind old more front all is kept =
    let split : all ≡ old ++ (more ++ drop (length front) all) =
    sym (take-append-drop (length front) all) ∙ ap (λ (l : List ℕ). l ++ drop (length front) all) (kept ∙ is) ∙ append_assoc old more (drop (length front) all) in
    ap (take (length old)) split ∙ take_at old (more ++ drop (length front) all) (length old) refl
