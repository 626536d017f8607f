-- That what a value names is there, and that it asks nothing, are tests that calls keep.
use Rattle.std.proofs.Common.{◌≡◌, ℕ, zero, suc, List, [], ◌∷◌, ◌++◌, Bool, true, false, not, Option, Some, None, is_some, slice_get, refl, ap, ◌∙◌, subst}
use Rattle.js_value.specs.Image.{is_primitive, value_of}
use Rattle.js_value.specs.declared.value.Callee.{Callee}
use Rattle.js_value.specs.declared.value.Callee.TheVariants as callee
use Rattle.js_value.specs.declared.value.HidId.{HidId}
use Rattle.js_value.specs.declared.value.Value.{Value}
use Rattle.js_value.specs.declared.value.Value.TheVariants as value
use Rattle.js_heap.specs.World.{World, classes}
use Rattle.js_heap.specs.declared.class.Class.{Class}
use Rattle.js_heap.specs.declared.class.Class.TheVariants as class
use Rattle.js_host.specs.Gives.{OutcomeGives}
use Rattle.js_host.specs.Keeps.{AllPass, Grows, HostNames, IsMade, Lasting, Test}
use Rattle.js_host.specs.Names.{outcome_names}
use Rattle.js_host.specs.Tests.{PassAfter, calm, class_is_calm, there}
use Rattle.js_heap.specs.Closed.{Each}
use Rattle.js_host.specs.declared.call.Outcome.{Outcome}
use Rattle.js_host.specs.declared.call.Outcome.TheVariants as outcome

there_more : (cs ds : List Class) (n : ℕ) → is_some (slice_get cs n) ≡ true → is_some (slice_get (cs ++ ds) n) ≡ true
there_more [] ds n e = cc
there_more (c ∷ cs) ds zero e = refl
there_more (c ∷ cs) ds (suc n) e = there_more cs ds n e

value_there_more : (cs ds : List Class) (v : Value) → there cs v ≡ true → there (cs ++ ds) v ≡ true
value_there_more cs ds (value.Ref o) e = there_more cs ds o.number e
value_there_more cs ds (value.Wrap f (callee.Ref o)) e = there_more cs ds o.number e
value_there_more cs ds (value.Wrap f (callee.Native n)) e = refl
value_there_more cs ds v e = refl

primitive_there : (cs : List Class) (v : Value) → is_primitive v ≡ true → there cs v ≡ true
primitive_there cs (value.Ref o) e = cc
primitive_there cs (value.Wrap f (callee.Ref o)) e = cc
primitive_there cs (value.Wrap f (callee.Native n)) e = refl
primitive_there cs v e = refl

wrap_there : (cs : List Class) (f : HidId) (c : Callee) → there cs (value_of c) ≡ true → there cs (value.Wrap f c) ≡ true
wrap_there cs f (callee.Ref o) e = e
wrap_there cs f (callee.Native n) e = refl

pub there_lasts : Lasting there
there_lasts = record {
  primitive = primitive_there;
  native = λ cs n e. refl;
  made = λ cs o c e m. ap is_some e;
  wrap = wrap_there;
  more = λ cs ds v m e. value_there_more cs ds v e;
}

made_is_calm : (c : Class) → IsMade c → class_is_calm (Some c) ≡ true
made_is_calm class.Object m = refl
made_is_calm class.Array m = refl
made_is_calm (class.Function c) m = refl
made_is_calm (class.Bound b) m = refl
made_is_calm (class.Date t) m = refl
made_is_calm class.Error m = refl
made_is_calm class.Arguments m = refl
made_is_calm class.Event m = refl
made_is_calm (class.Node n) m = refl
made_is_calm (class.Request n) m = refl
made_is_calm (class.Builtin None) m = refl
made_is_calm (class.Builtin (Some n)) m = m

all_calm : (ds : List Class) (n : ℕ) → Each IsMade ds → class_is_calm (slice_get ds n) ≡ true
all_calm [] n m = refl
all_calm (d ∷ ds) zero m = made_is_calm d m.0
all_calm (d ∷ ds) (suc n) m = all_calm ds n m.1

calm_more : (cs ds : List Class) (n : ℕ) → Each IsMade ds → class_is_calm (slice_get cs n) ≡ true → class_is_calm (slice_get (cs ++ ds) n) ≡ true
calm_more [] ds n m e = all_calm ds n m
calm_more (c ∷ cs) ds zero m e = e
calm_more (c ∷ cs) ds (suc n) m e = calm_more cs ds n m e

value_calm_more : (cs ds : List Class) (v : Value) → Each IsMade ds → calm cs v ≡ true → calm (cs ++ ds) v ≡ true
value_calm_more cs ds (value.Native n) m e = e
value_calm_more cs ds (value.Ref o) m e = calm_more cs ds o.number m e
value_calm_more cs ds v m e = refl

primitive_calm : (cs : List Class) (v : Value) → is_primitive v ≡ true → calm cs v ≡ true
primitive_calm cs (value.Native n) e = cc
primitive_calm cs (value.Ref o) e = cc
primitive_calm cs v e = refl

pub calm_lasts : Lasting calm
calm_lasts = record {
  primitive = primitive_calm;
  native = λ cs n e. ap not e;
  made = λ cs o c e m. ap class_is_calm e ∙ made_is_calm c m;
  wrap = λ cs f c e. refl;
  more = value_calm_more;
}

get_before : (cs ds : List Class) (n : ℕ) (c : Class) → slice_get cs n ≡ Some c → slice_get (cs ++ ds) n ≡ Some c
get_before [] ds n c e = cc
get_before (b ∷ cs) ds zero c e = e
get_before (b ∷ cs) ds (suc n) c e = get_before cs ds n c e

-- an object that is there keeps its class
pub class_stays : (w w' : World) (n : ℕ) (c : Class) → Grows w w' → slice_get (classes w) n ≡ Some c → slice_get (classes w') n ≡ Some c
class_stays w w' n c g e = ap (λ cs. slice_get cs n) g.objects ∙ get_before (classes w) g.added n c e

-- what a definition gives passes, so what a call gave does
pub gives_pass : {H D : Type 0} (N : HostNames H D) (ok : Test) (r : Outcome × World × H) (o : Outcome) (w : World) (h : H)
    → OutcomeGives r o w h → AllPass ok r.1 (outcome_names r.0 (N.host r.2)) → PassAfter ok N.host o w h
gives_pass N ok r outcome.NoMemory w h g a = tt
gives_pass N ok r (outcome.Value v) w h g a = subst (λ q. AllPass ok q.1 (outcome_names q.0 (N.host q.2))) g a
gives_pass N ok r (outcome.Throw v) w h g a = subst (λ q. AllPass ok q.1 (outcome_names q.0 (N.host q.2))) g a
gives_pass N ok r (outcome.Enter c p) w h g a = subst (λ q. AllPass ok q.1 (outcome_names q.0 (N.host q.2))) g a
gives_pass N ok r (outcome.Needs k) w h g a = subst (λ q. AllPass ok q.1 (outcome_names q.0 (N.host q.2))) g a
