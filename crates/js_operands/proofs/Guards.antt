-- What is reached behind the conversions of operands.
use Rattle.std.proofs.Common.{◌≡◌, ℕ, Bool, true, false, List, [], Option, Some, None, Result, Ok, Err, IfOk, MatchOption, if◌then◌else◌, refl, ap, sym, ◌∙◌, subst}
use Rattle.js_value.specs.declared.value.Value.{Value}
use Rattle.js_ops.specs.Convert.{is_missing}
use Rattle.js_ops.specs.declared.equality.Hint.{Hint}
use Rattle.js_heap.specs.World.{World}
use Rattle.js_host.specs.There.{AreThere}
use Rattle.js_reference.specs.Answers.{answer, answered_names}
use Rattle.js_reference.specs.Errors.{Answer}
use Rattle.js_reference.specs.Own.{OwnProperties}
use Rattle.js_reference.specs.declared.answered.Answered.{Answered}
use Rattle.js_reference.specs.declared.error.ErrorName.TheVariants.{TypeError}
use Rattle.js_term.specs.Evaluation.{Evaluation}
use Rattle.js_operands.specs.Conversions.{key_wanted, keyed, prepared}
use Rattle.js_operands.specs.Made.{Made}
use Rattle.js_operands.specs.Prepared.{Converts, HasGiven, HasReached, IsPrepared, IsReady, reached_names}
use Rattle.js_operands.specs.Rows.{ExprRow}
use Rattle.js_operands.specs.Steps.{operand_at, throws}
use Rattle.js_operands.specs.declared.expr_move.ExprMove.{ExprMove}
use Rattle.js_operands.specs.declared.reached.Reached.{Reached}
use Rattle.js_operands.specs.declared.reached.Reached.TheVariants as reached
use Rattle.js_operands.specs.declared.row.Phase.{Phase}

-- an operation that comes behind, of the world and the operands as they were
pub given_after : {H : Type 0} (guard : ExprRow → Made H → Made H) (f : World → Evaluation → List ℕ → Answer H) (e e1 : Evaluation) (w w1 w' : World) (h : H) (k k1 : List ℕ) (v : Answered)
    → ((r : ExprRow) (made : Made H) → guard r made ≡ made) → f w1 e1 k1 ≡ answer v w' h → w1 ≡ w → e1 ≡ e → k1 ≡ k → HasGiven guard (f w e k) e e1 w' h v
given_after guard f e e1 w w1 w' h k k1 v ready given sw se sk = record {
  made = λ r next. let same : f w e k ≡ f w1 e1 k1 = cc in ready r (next (f w e k)) ∙ ap next (same ∙ given);
  same = se;
}

pub choice_false : {A : Type 0} (b : Bool) (t u : A) → b ≡ false → (if b then t else u) ≡ u
choice_false false t u e = refl
choice_false true t u e = cc

pub choice_true : {A : Type 0} (b : Bool) (t u : A) → b ≡ true → (if b then t else u) ≡ t
choice_true true t u e = refl
choice_true false t u e = cc

module _ {H : Type 0} (O : OwnProperties H) (w : World) (h : H) (vs : List Value) where
  -- a base that is there
  pub keyed_there : (r : ExprRow) (made x : Made H) → is_missing (operand_at vs 0) ≡ false → prepared O w h r key_wanted vs made ≡ x → keyed O w h r vs made ≡ x
  keyed_there r made x e p = choice_false (is_missing (operand_at vs 0)) (throws TypeError w h) (prepared O w h r key_wanted vs made) e ∙ p

  -- undefined or null
  pub keyed_missing : (r : ExprRow) (made x : Made H) → is_missing (operand_at vs 0) ≡ true → throws TypeError w h ≡ x → keyed O w h r vs made ≡ x
  keyed_missing r made x e p = choice_true (is_missing (operand_at vs 0)) (throws TypeError w h) (prepared O w h r key_wanted vs made) e ∙ p

-- what comes of an operation's answer comes of the operation
pub next_made : {H E : Type 0} (r : Result ExprMove E) (next : Answer H → Made H) (op x : Answer H) (made : ExprMove → Made H) → op ≡ x → IfOk r (λ m. next x ≡ made m) → IfOk r (λ m. next op ≡ made m)
next_made (Ok m) next op x made e i = ap next e ∙ i
next_made (Err k) next op x made e i = tt

pub made_by : {H E : Type 0} (r : Result ExprMove E) (is was : Made H) (made : ExprMove → Made H) → is ≡ was → IfOk r (λ m. was ≡ made m) → IfOk r (λ m. is ≡ made m)
made_by (Ok m) is was made e i = e ∙ i
made_by (Err k) is was made e i = tt

-- what is known behind a conversion that was not wanted, and of one that was
pub ready_of : {H : Type 0} (O : OwnProperties H) (f : ℕ → Option Hint) (p : Option Phase) (w : World) (h : H) (vs : List Value) (o : Option ExprMove) (e : Evaluation) (w' : World) → o ≡ None → IsPrepared O f p w h vs o e w' → IsReady O f w h vs
ready_of O f p w h vs o e w' is a = subst (λ x. IsPrepared O f p w h vs x e w') is a

pub converts_of : {H : Type 0} (O : OwnProperties H) (f : ℕ → Option Hint) (p : Option Phase) (w : World) (h : H) (vs : List Value) (o : Option ExprMove) (m : ExprMove) (e : Evaluation) (w' : World) → o ≡ Some m → IsPrepared O f p w h vs o e w' → Converts O f w h vs p m e w'
converts_of O f p w h vs o m e w' is a = subst (λ x. IsPrepared O f p w h vs x e w') is a

pub none_of : (o : Option ExprMove) (A : Type 0) (B : ExprMove → Type 0) → o ≡ None → MatchOption o A B → A
none_of o A B is a = subst (λ x. MatchOption x A B) is a

pub given_of : {H : Type 0} (guard : ExprRow → Made H → Made H) (op : Answer H) (e e' : Evaluation) (w : World) (h : H) (x : Reached) (v : Answered) → x ≡ reached.Gives v → HasReached guard op e e' w h x → HasGiven guard op e e' w h v
given_of guard op e e' w h x v is a = subst (HasReached guard op e e' w h) is a

pub names_of : (w : World) (x : Reached) (v : Answered) (vs : List Value) → x ≡ reached.Gives v → AreThere w (reached_names x vs) → AreThere w (answered_names v vs)
names_of w x v vs is a = subst (λ y. AreThere w (reached_names y vs)) is a
