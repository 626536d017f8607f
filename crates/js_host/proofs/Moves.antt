-- The few moves from which definitions of calls are written keep what calls keep.
use Rattle.std.proofs.Common.{◌≡◌, ℕ, zero, suc, List, [], ◌∷◌, ◌++◌, Option, Some, None, length, map, pos, slice_get, refl, ap, sym, ◌∙◌}
use Rattle.std.proofs.lemmas.List.{append-nil, append_assoc, map-append, length-map}
use Rattle.js_value.specs.declared.number.Num.{Num}
use Rattle.js_value.specs.declared.number.Num.TheVariants.{Whole}
use Rattle.js_value.specs.declared.value.ObjId.{ObjId}
use Rattle.js_value.specs.declared.value.Value.{Value}
use Rattle.js_value.specs.declared.value.Value.TheVariants as value
use Rattle.js_heap.specs.Objects.{first_properties, with_object}
use Rattle.js_heap.specs.World.{World, classes}
use Rattle.js_heap.specs.declared.class.Class.{Class}
use Rattle.js_heap.specs.declared.class.Class.TheVariants as class
use Rattle.js_heap.specs.declared.object.Object.{Object}
use Rattle.js_heap.specs.declared.root.Root.{Root}
use Rattle.js_heap.specs.declared.scope.Scope.{Scope}
use Rattle.js_host.specs.Keeps.{AllPass, Grows, IsMade, Keeps, Lasting, ObjectHas, Passes, ScopeHas, Test, WorldHas, class_names, prototype_names, root_value}
use Rattle.js_heap.specs.Closed.{Each}
use Rattle.js_host.proofs.Lists.{each-append, each-left, each-right, each-weaker}

object-weaker : (P Q : Value → Type 0) → ((v : Value) → P v → Q v) → (o : Object) → ObjectHas P o → ObjectHas Q o
object-weaker P Q f o a = record {
  class = each-weaker P Q f (class_names o.class) a.class;
  prototype = each-weaker P Q f (prototype_names o.prototype) a.prototype;
  properties = each-weaker (λ p. P p.value) (λ p. Q p.value) (λ p. f p.value) o.properties a.properties;
}

scope-weaker : (P Q : Value → Type 0) → ((v : Value) → P v → Q v) → (s : Scope) → ScopeHas P s → ScopeHas Q s
scope-weaker P Q f s a = each-weaker (λ b. P b.value) (λ b. Q b.value) (λ b. f b.value) s.names a

pub world-weaker : (P Q : Value → Type 0) → ((v : Value) → P v → Q v) → (w : World) → WorldHas P w → WorldHas Q w
world-weaker P Q f w a = record {
  objects = each-weaker (ObjectHas P) (ObjectHas Q) (object-weaker P Q f) w.objects a.objects;
  scopes = each-weaker (ScopeHas P) (ScopeHas Q) (scope-weaker P Q f) w.scopes a.scopes;
}

-- what passes still does in a world after
pub still-passes : (ok : Test) → Lasting ok → (w w' : World) → Grows w w' → (v : Value) → Passes ok w v → Passes ok w' v
still-passes ok l w w' g v p = ap (λ cs. ok cs v) g.objects ∙ l.more (classes w) g.added v g.made p

pub still-each : (ok : Test) → Lasting ok → (w w' : World) → Grows w w' → (vs : List Value) → Each (Passes ok w) vs → Each (Passes ok w') vs
still-each ok l w w' g vs a = each-weaker (Passes ok w) (Passes ok w') (still-passes ok l w w' g) vs a

pub grows-same : (w w' : World) → classes w' ≡ classes w → w'.scopes ≡ w.scopes → Grows w w'
grows-same w w' e f = record { added = []; made = tt; objects = e ∙ sym (append-nil (classes w)); scopes = f }

pub grows-then : (u v w : World) → Grows u v → Grows v w → Grows u w
grows-then u v w a b = record {
  added = a.added ++ b.added;
  made = each-append IsMade a.added b.added a.made b.made;
  objects = b.objects ∙ (ap (λ cs. cs ++ b.added) a.objects ∙ append_assoc (classes u) a.added b.added);
  scopes = b.scopes ∙ a.scopes;
}

-- values that pass where these do, whatever the test
abbrev pub Chosen : World → List Value → List Value → Type 0
Chosen w vs rs = (ok : Test) → Lasting ok → AllPass ok w vs → Each (Passes ok w) rs

-- the last move: the results are at hand
pub keeps-chosen : (w : World) (vs rs : List Value) → Chosen w vs rs → Keeps w vs w rs
keeps-chosen w vs rs f = record {
  grows = grows-same w w refl refl;
  passes = λ ok l a. record { world = a.world; roots = a.roots; values = f ok l a };
}

pub keeps-then : (u v w : World) (vs rs ts : List Value) → Keeps u vs v rs → Keeps v rs w ts → Keeps u vs w ts
keeps-then u v w vs rs ts a b = record { grows = grows-then u v w a.grows b.grows; passes = λ ok l p. b.passes ok l (a.passes ok l p) }

get_last : {X : Type 0} (xs : List X) (x : X) → slice_get (xs ++ x ∷ []) (length xs) ≡ Some x
get_last [] x = refl
get_last (y ∷ xs) x = get_last xs x

-- Objects.

abbrev class_in : Object → Class
class_in o = o.class

grows-object : (w : World) (c : Class) (p : Option ObjId) → IsMade c → Grows w (with_object w c p)
grows-object w c p m = record {
  added = c ∷ [];
  made = (m, tt);
  objects = map-append class_in w.objects _;
  scopes = refl;
}

-- an array's `length` is a number, and other objects begin without properties
first_has : (P : Value → Type 0) → ((n : Num) → P (value.Num n)) → (c : Class) → Each (λ p. P p.value) (first_properties c)
first_has P f class.Array = (f (Whole (pos 0)), tt)
first_has P f class.Object = tt
first_has P f (class.Function c) = tt
first_has P f (class.Bound b) = tt
first_has P f (class.Date t) = tt
first_has P f class.Error = tt
first_has P f class.Arguments = tt
first_has P f class.Event = tt
first_has P f (class.Node n) = tt
first_has P f (class.Request n) = tt
first_has P f (class.Builtin n) = tt

-- the number of the next object
abbrev pub next_id : World → ObjId
next_id w = record { number = length w.objects }

made_there : (w : World) (c : Class) (p : Option ObjId) → slice_get (classes (with_object w c p)) (length w.objects) ≡ Some c
made_there w c p =
    ap (λ cs. slice_get cs (length w.objects)) (map-append class_in w.objects _)
    ∙ (ap (λ n. slice_get (classes w ++ c ∷ []) n) (sym (length-map w.objects class_in)) ∙ get_last (classes w) c)

-- an object is made
pub keeps-object : (w : World) (vs : List Value) (c : Class) (p : Option ObjId) → IsMade c → Chosen w vs (class_names c ++ prototype_names p)
    → Keeps w vs (with_object w c p) (value.Ref (next_id w) ∷ vs)
unfolding grows-object
keeps-object w vs c p m f =
    let g : Grows w (with_object w c p) = grows-object w c p m in
    record {
      grows = g;
      passes = λ ok l a.
          let still : (v : Value) → Passes ok w v → Passes ok (with_object w c p) v = still-passes ok l w (with_object w c p) g in
          let named : Each (Passes ok w) (class_names c ++ prototype_names p) = f ok l a in
          record {
            world = world-weaker (Passes ok w) (Passes ok (with_object w c p)) still (with_object w c p) (record {
              objects = each-append (ObjectHas (Passes ok w)) w.objects _ a.world.objects (
                record {
                  class = each-left (Passes ok w) (class_names c) (prototype_names p) named;
                  prototype = each-right (Passes ok w) (class_names c) (prototype_names p) named;
                  properties = first_has (Passes ok w) (λ n. l.primitive (classes w) (value.Num n) refl) c;
                },
                tt,
              );
              scopes = a.world.scopes;
            });
            roots = λ r. still (root_value r) (a.roots r);
            values = (l.made (classes (with_object w c p)) (next_id w) c (made_there w c p) m, still-each ok l w (with_object w c p) g vs a.values);
          };
    }

-- the same, in front of the moves that follow
pub object_then : (w : World) (vs : List Value) (c : Class) (p : Option ObjId) (w' : World) (rs : List Value) → IsMade c
    → Chosen w vs (class_names c ++ prototype_names p) → Keeps (with_object w c p) (value.Ref (next_id w) ∷ vs) w' rs → Keeps w vs w' rs
object_then w vs c p w' rs m f k = keeps-then w (with_object w c p) w' vs (value.Ref (next_id w) ∷ vs) rs (keeps-object w vs c p m f) k
