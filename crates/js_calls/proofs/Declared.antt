-- What a call declares, one name after the other.
use Rattle.std.proofs.Common.{◌≡◌, ℕ, zero, suc, ◌+◌, ◌<◌, ◌≤◌, List, [], ◌∷◌}
use Rattle.std.proofs.Common.{drop, get_or}
use Rattle.std.proofs.Common.{length, slice_get, ap, sym, ◌∙◌, arith, add-one}
use Rattle.std.specs.Prelude.{decimal, true, unwrap_or}
use Rattle.std.proofs.lemmas.List.{drop_all, drop_more}
use Rattle.js_value.specs.declared.value.ObjId.{ObjId}
use Rattle.js_value.specs.declared.value.Value.{Value}
use Rattle.js_value.specs.declared.value.Value.TheVariants as value
use Rattle.js_heap.specs.Puts.{put}
use Rattle.js_heap.specs.Scopes.{declare}
use Rattle.js_heap.specs.World.{World}
use Rattle.js_heap.specs.declared.class.ScopeId.{ScopeId}
use Rattle.js_tree.specs.declared.node.Declared.{Declared}
use Rattle.js_calls.specs.Calls.{with_functions, with_indices, with_names, with_parameters}

split_at : {X : Type 0} (xs : List X) (i : ℕ) (x : X) → i < length xs → x ≡ get_or xs i x
    → drop i xs ≡ x ∷ drop (i + 1) xs
split_at xs i x l is = drop_more xs i x l ∙ ap (λ y. y ∷ drop (i + 1) xs) (sym is)

pub names_step : (s : ScopeId) (xs : List (List ℕ)) (i : ℕ) (x : List ℕ) (w : World)
    → i < length xs → x ≡ get_or xs i x
    → with_names s (drop (i + 1) xs) (declare w s x value.Undefined) ≡ with_names s (drop i xs) w
names_step s xs i x w l is = ap (λ ys. with_names s ys w) (sym (split_at xs i x l is))

pub functions_step : (text : ℕ) (s : ScopeId) (ds : List Declared) (i : ℕ) (d : Declared)
    (w : World) → i < length ds → d ≡ get_or ds i d
    → with_functions text s (drop (i + 1) ds) (with_functions text s (d ∷ []) w)
    ≡ with_functions text s (drop i ds) w
functions_step text s ds i d w l is =
    ap (λ ys. with_functions text s ys w) (sym (split_at ds i d l is))

arguments_at : (s : ScopeId) (vs : List Value) (i : ℕ) (v : Value) (p : List ℕ)
    (ps : List (List ℕ)) (w : World) → v ≡ unwrap_or (slice_get vs i) value.Undefined
    → with_parameters s ps (drop (suc i) vs) (declare w s p v)
    ≡ with_parameters s (p ∷ ps) (drop i vs) w
arguments_at s [] zero v p ps w e = ap (λ u. with_parameters s ps [] (declare w s p u)) e
arguments_at s [] (suc i) v p ps w e = ap (λ u. with_parameters s ps [] (declare w s p u)) e
arguments_at s (u ∷ vs) zero v p ps w e = ap (λ u. with_parameters s ps vs (declare w s p u)) e
arguments_at s (u ∷ vs) (suc i) v p ps w e = arguments_at s vs i v p ps w e

pub parameters_step : (s : ScopeId) (ps : List (List ℕ)) (vs : List Value) (i : ℕ) (p : List ℕ)
    (v : Value) (w : World) → i < length ps → p ≡ get_or ps i p
    → v ≡ unwrap_or (slice_get vs i) value.Undefined
    → with_parameters s (drop (i + 1) ps) (drop (i + 1) vs) (declare w s p v)
    ≡ with_parameters s (drop i ps) (drop i vs) w
parameters_step s ps vs i p v w l is e =
    ap (λ n. with_parameters s (drop (i + 1) ps) (drop n vs) (declare w s p v)) (add-one i)
    ∙ arguments_at s vs i v p (drop (i + 1) ps) w e
    ∙ ap (λ ys. with_parameters s ys (drop i vs) w) (sym (split_at ps i p l is))

-- the one parameter of a handler
pub event_step : (s : ScopeId) (vs : List Value) (v : Value) (x : List ℕ) (w : World)
    → v ≡ unwrap_or (slice_get vs 0) value.Undefined
    → declare w s x v ≡ with_parameters s (x ∷ []) vs w
event_step s [] v x w e = ap (declare w s x) e
event_step s (u ∷ []) v x w e = ap (declare w s x) e
event_step s (u ∷ y ∷ vs) v x w e = ap (declare w s x) e

indices_at : (o : ObjId) (vs : List Value) (i j : ℕ) (v : Value) (w : World) → i < length vs
    → v ≡ unwrap_or (slice_get vs i) value.Undefined
    → with_indices o (suc j) (drop (suc i) vs) (put w o (decimal j) v true)
    ≡ with_indices o j (drop i vs) w
indices_at o [] i j v w l e = absurd (omega (arith, l))
indices_at o (u ∷ vs) zero j v w l e =
    ap (λ u. with_indices o (suc j) vs (put w o (decimal j) u true)) e
indices_at o (u ∷ vs) (suc i) j v w l e = indices_at o vs i j v w (omega (arith, l)) e

pub indices_step : (o : ObjId) (vs : List Value) (i : ℕ) (v : Value) (w : World) → i < length vs
    → v ≡ unwrap_or (slice_get vs i) value.Undefined
    → with_indices o (i + 1) (drop (i + 1) vs) (put w o (decimal i) v true)
    ≡ with_indices o i (drop i vs) w
indices_step o vs i v w l e =
    ap (λ n. with_indices o n (drop n vs) (put w o (decimal i) v true)) (add-one i)
    ∙ indices_at o vs i i v w l e

-- behind the last
pub names_end : (s : ScopeId) (xs : List (List ℕ)) (i : ℕ) (w : World) → length xs ≤ i
    → w ≡ with_names s (drop i xs) w
names_end s xs i w l = ap (λ ys. with_names s ys w) (sym (drop_all i xs l))

pub functions_end : (text : ℕ) (s : ScopeId) (ds : List Declared) (i : ℕ) (w : World)
    → length ds ≤ i → w ≡ with_functions text s (drop i ds) w
functions_end text s ds i w l = ap (λ ys. with_functions text s ys w) (sym (drop_all i ds l))

pub parameters_end : (s : ScopeId) (ps : List (List ℕ)) (vs : List Value) (i : ℕ) (w : World)
    → length ps ≤ i → w ≡ with_parameters s (drop i ps) vs w
parameters_end s ps vs i w l = ap (λ ys. with_parameters s ys vs w) (sym (drop_all i ps l))

pub indices_end : (o : ObjId) (vs : List Value) (i : ℕ) (w : World) → length vs ≤ i
    → with_indices o i (drop i vs) w ≡ with_indices o i [] w
indices_end o vs i w l = ap (λ ys. with_indices o i ys w) (drop_all i vs l)
