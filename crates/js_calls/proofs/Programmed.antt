-- What a program declares, one name after the other.
use Rattle.std.proofs.Common.{◌≡◌, ℕ, ◌+◌, ◌<◌, ◌≤◌, List, ◌∷◌, drop}
use Rattle.std.proofs.Common.{get_or}
use Rattle.std.proofs.Common.{length, ap, sym, ◌∙◌}
use Rattle.std.proofs.lemmas.List.{drop_all, drop_more}
use Rattle.js_value.specs.declared.value.Value.{Value}
use Rattle.js_value.specs.declared.value.Value.TheVariants as value
use Rattle.js_heap.specs.World.{World}
use Rattle.js_reference.specs.Errors.Answer.{Returns, Throws}
use Rattle.js_reference.specs.Own.{OwnProperties}
use Rattle.js_tree.specs.declared.node.Declared.{Declared}
use Rattle.js_calls.specs.Programs.{and_then, declare_function, declare_functions, declare_variable}
use Rattle.js_calls.specs.Programs.{declare_variables}

module _ {H : Type 0} (O : OwnProperties H)
    (handler : World → H → (name : List ℕ) → Value → World × H) where
  at_function : (text : ℕ) (ds : List Declared) (i : ℕ) (d : Declared) (w : World) (h : H)
      → i < length ds → d ≡ get_or ds i d
      → declare_functions O handler text (drop i ds) w h
      ≡ and_then (declare_function O handler text d w h)
      (declare_functions O handler text (drop (i + 1) ds))
  at_function text ds i d w h l is =
      ap (λ ys. declare_functions O handler text ys w h)
      (drop_more ds i d l ∙ ap (λ y. y ∷ drop (i + 1) ds) (sym is))

  -- one more function
  pub function_step : (text : ℕ) (ds : List Declared) (i : ℕ) (d : Declared) (w : World) (h : H)
      (v : Value) (w' : World) (h' : H) → i < length ds → d ≡ get_or ds i d
      → declare_function O handler text d w h ≡ Returns v w' h'
      → declare_functions O handler text (drop i ds) w h
      ≡ declare_functions O handler text (drop (i + 1) ds) w' h'
  function_step text ds i d w h v w' h' l is e =
      at_function text ds i d w h l is
      ∙ ap (λ x. and_then x (declare_functions O handler text (drop (i + 1) ds))) e

  -- the first that throws
  pub function_thrown : (text : ℕ) (ds : List Declared) (i : ℕ) (d : Declared) (w : World) (h : H)
      (v : Value) (w' : World) (h' : H) → i < length ds → d ≡ get_or ds i d
      → declare_function O handler text d w h ≡ Throws v w' h'
      → declare_functions O handler text (drop i ds) w h ≡ Throws v w' h'
  function_thrown text ds i d w h v w' h' l is e =
      at_function text ds i d w h l is
      ∙ ap (λ x. and_then x (declare_functions O handler text (drop (i + 1) ds))) e

  pub functions_done : (text : ℕ) (ds : List Declared) (i : ℕ) (w : World) (h : H)
      → length ds ≤ i
      → declare_functions O handler text (drop i ds) w h ≡ Returns value.Undefined w h
  functions_done text ds i w h l =
      ap (λ ys. declare_functions O handler text ys w h) (drop_all i ds l)

  pub variable_step : (xs : List (List ℕ)) (i : ℕ) (x : List ℕ) (w : World) (h : H)
      → i < length xs → x ≡ get_or xs i x
      → declare_variables O handler (drop (i + 1) xs) (declare_variable O handler x w h) h
      ≡ declare_variables O handler (drop i xs) w h
  variable_step xs i x w h l is =
      ap (λ ys. declare_variables O handler ys w h)
      (sym (drop_more xs i x l ∙ ap (λ y. y ∷ drop (i + 1) xs) (sym is)))

  pub variables_done : (xs : List (List ℕ)) (i : ℕ) (w : World) (h : H) → length xs ≤ i
      → w ≡ declare_variables O handler (drop i xs) w h
  variables_done xs i w h l =
      ap (λ ys. declare_variables O handler ys w h) (sym (drop_all i xs l))
