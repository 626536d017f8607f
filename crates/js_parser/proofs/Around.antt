-- What stands around what is read next, as what is still to be read tells.
use Rattle.std.proofs.Common.{◌≡◌, ℕ, Bool, true, false, List, [], ◌∷◌, ◌||◌, refl, ap, ◌∙◌}
use Rattle.std.specs.Str.{bytes_eq}
use Rattle.js_tree.specs.Names.{is_among}
use Rattle.js_tree.specs.Runs.{Around, nothing, in_loop, joined_labels}
use Rattle.js_tree.specs.Runs as runs
use Rattle.js_grammar.specs.declared.symbol.Open.TheVariants as open_part
use Rattle.js_grammar.specs.declared.symbol.Symbol.{Symbol}
use Rattle.js_grammar.specs.declared.symbol.Symbol.TheVariants.{Build as Makes, Leave}
use Rattle.js_grammar.specs.Parts.{in_function, breaks, continues, breaks_to, continues_to, labels}

-- the labels directly in front of the statement that ends here
abbrev pub front : List Symbol → List (List ℕ)
front (Makes b ∷ s) = front s
front (Leave (open_part.Labelled l) ∷ s) = l ∷ front s
front _ = []

abbrev pub around : List Symbol → Around
around [] = nothing
around (Leave open_part.Function ∷ s) = runs.in_function
around (Leave open_part.Loop ∷ s) = in_loop (front s) (around s)
around (Leave open_part.Switch ∷ s) = record (around s) { is_broken = true }
around (Leave (open_part.Labelled l) ∷ s) =
    record (around s) { labels = joined_labels (l ∷ []) (around s).labels }
around (_ ∷ s) = around s

-- What leads somewhere in what is still to be read does so in what stands around.
pub returns_around : (s : List Symbol) → in_function s ≡ (around s).is_returned
returns_around [] = refl
returns_around (Leave open_part.Function ∷ s) = refl
returns_around (_ ∷ s) = returns_around s

pub breaks_around : (s : List Symbol) → breaks s ≡ (around s).is_broken
breaks_around [] = refl
breaks_around (Leave open_part.Function ∷ s) = refl
breaks_around (Leave open_part.Loop ∷ s) = refl
breaks_around (Leave open_part.Switch ∷ s) = refl
breaks_around (_ ∷ s) = breaks_around s

pub continues_around : (s : List Symbol) → continues s ≡ (around s).is_continued
continues_around [] = refl
continues_around (Leave open_part.Function ∷ s) = refl
continues_around (Leave open_part.Loop ∷ s) = refl
continues_around (_ ∷ s) = continues_around s

pub breaks_to_around : (l : List ℕ) (s : List Symbol) →
    breaks_to l s ≡ is_among l (around s).labels
breaks_to_around l [] = refl
breaks_to_around l (Leave open_part.Function ∷ s) = refl
breaks_to_around l (Leave (open_part.Labelled m) ∷ s) =
    ap (λ z. bytes_eq l m || z) (breaks_to_around l s)
breaks_to_around l (_ ∷ s) = breaks_to_around l s

labels_front : (l : List ℕ) (s : List Symbol) → labels l s ≡ is_among l (front s)
labels_front l [] = refl
labels_front l (Makes b ∷ s) = labels_front l s
labels_front l (Leave (open_part.Labelled m) ∷ s) =
    ap (λ z. bytes_eq l m || z) (labels_front l s)
labels_front l (_ ∷ s) = refl

or_grouped : (a b c : Bool) → ((a || b) || c) ≡ (a || (b || c))
or_grouped true b c = refl
or_grouped false b c = refl

among_joined : (l : List ℕ) (ms ns : List (List ℕ)) →
    (is_among l ms || is_among l ns) ≡ is_among l (joined_labels ms ns)
among_joined l [] ns = refl
among_joined l (m ∷ ms) ns =
    or_grouped (bytes_eq l m) (is_among l ms) (is_among l ns)
    ∙ ap (λ z. bytes_eq l m || z) (among_joined l ms ns)

pub continues_to_around : (l : List ℕ) (s : List Symbol) →
    continues_to l s ≡ is_among l (around s).loop_labels
continues_to_around l [] = refl
continues_to_around l (Leave open_part.Function ∷ s) = refl
continues_to_around l (Leave open_part.Loop ∷ s) =
    ap (λ z. z || continues_to l s) (labels_front l s)
    ∙ ap (λ z. is_among l (front s) || z) (continues_to_around l s)
    ∙ among_joined l (front s) (around s).loop_labels
continues_to_around l (_ ∷ s) = continues_to_around l s
