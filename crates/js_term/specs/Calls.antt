-- What a call comes to once its operands are values, and what its native's row converts is
-- converted (ECMA-262 edition 5.1, 11.2.2, 11.2.3, 13.2.1, 13.2.2, 15.3.4.5.1).
use Rattle.std.specs.Prelude.{List, ◌++◌, Bool, true, false, Option, Some, None, cond}
use Rattle.std.specs.Option.{option_map, option_map_or}
use Rattle.js_value.specs.Image.{image}
use Rattle.js_value.specs.declared.value.NativeId.{NativeId}
use Rattle.js_value.specs.declared.value.Value.{Value}
use Rattle.js_value.specs.declared.value.Value.TheVariants as value
use Rattle.js_heap.specs.Objects.{class_of}
use Rattle.js_heap.specs.World.{World, object_at}
use Rattle.js_heap.specs.declared.class.Bound.{Bound}
use Rattle.js_heap.specs.declared.class.Class.{Class}
use Rattle.js_heap.specs.declared.class.Class.TheVariants as class
use Rattle.js_heap.specs.declared.class.Code.{Code}
use Rattle.js_host.specs.Natives.{native_at, refuses}
use Rattle.js_host.specs.declared.call.Callback.{Callback}
use Rattle.js_host.specs.declared.call.Kind.{Kind}
use Rattle.js_host.specs.declared.call.Kind.TheVariants as kind
use Rattle.js_host.specs.declared.call.NativeCall.{NativeCall}
use Rattle.js_host.specs.declared.call.Outcome.{Outcome}
use Rattle.js_host.specs.declared.call.Outcome.TheVariants as outcome
use Rattle.js_host.specs.declared.call.Resume.{Resume}
use Rattle.js_term.specs.declared.calls.CalledFunction.{CalledFunction}
use Rattle.js_term.specs.declared.calls.CalledFunction.TheVariants as code
use Rattle.js_term.specs.declared.completion.Completion.TheVariants.{Throw}
use Rattle.js_term.specs.Place.{Place}
use Rattle.js_term.specs.Table.{Question, Step}
use Rattle.js_term.specs.Table.Question.{Now, Random}
use Rattle.js_term.specs.Table.Step.{Gives, Asks}
use Rattle.js_term.specs.Term.{Term}
use Rattle.js_term.specs.Term.Term.{Val, Stop}

-- what is called: a page function, a bound function, a native, or what can't be called
pub data Called : Type 0 where
  Page : Code → Called
  Target : Bound → Called
  Host_native : NativeId → Called
  Uncallable : Called

abbrev pub called_class : Class → Called
called_class (class.Function c) = Page c
called_class (class.Bound b) = Target b
called_class (class.Builtin (Some n)) = Host_native n
called_class c = Uncallable

abbrev pub called_object : Option Class → Called
called_object c = option_map_or called_class c Uncallable

abbrev pub called_image : World → Value → Called
called_image w (value.Ref o) = called_object (option_map class_of (object_at w o))
called_image w (value.Native n) = Host_native n
called_image w v = Uncallable

-- a wrap is called as its callee is
abbrev pub called : World → Value → Called
called w v = called_image w (image v)

-- the same as code has it
abbrev pub called_as : CalledFunction → Called
called_as (code.Page c) = Page c
called_as (code.Target b) = Target b.now
called_as (code.Native n) = Host_native n
called_as code.Uncallable = Uncallable

-- whether the native of this number may not be called so
abbrev pub is_refused : NativeId → (by_new : Bool) → Bool
is_refused id by_new =
    option_map_or (λ row. refuses row.construct by_new) (native_at id.number) true

-- the call of a bound function's target
abbrev pub target_call : Bound → List Value → NativeCall
target_call b vs = record { construct = false; this = b.this; args = b.args ++ vs }

abbrev pub question_of : Kind → Question
question_of kind.Now = Now
question_of kind.Rand = Random

-- What a table gives for calls. native: the host's definition. entered: a page function's scope and
-- body form. again: a call of a function that isn't a `new`. waits: a native that waits for its
-- callback. refused: the TypeError.
pub record Calling (R H : Type 0) : Type 0 where
  pub native : World → H → NativeId → NativeCall → Outcome × World × H
  pub entered : Place → World → H → Code → NativeCall → Step R H
  pub again : Place → Value → NativeCall → Term R
  pub waits : Place → Callback → Resume → Term R
  pub refused : World → H → Step R H

module _ {R H : Type 0} (C : Calling R H) where
  -- what a native comes to; its definition doesn't run out of memory
  abbrev pub native_step : Place → Outcome × World × H → Step R H
  native_step p r = elim (r.0) [
    | outcome.Value v ↦ Gives (Val v) r.1 r.2
    | outcome.Throw v ↦ Gives (Stop (Throw v)) r.1 r.2
    | outcome.Enter c q ↦ Gives (C.waits p c q) r.1 r.2
    | outcome.Needs k ↦ Asks (question_of k)
    | outcome.NoMemory ↦ C.refused r.1 r.2
  ]

  -- A page function makes its scope and becomes its body. A bound function becomes the call of its
  -- target, and has no `new`. A native is its row, where it may be called so. All else throws a
  -- TypeError.
  abbrev pub call_of : Place → World → H → Called → NativeCall → Step R H
  call_of p w h (Page f) c = C.entered p w h f c
  call_of p w h (Target b) c =
      cond c.construct (C.refused w h) (Gives (C.again p b.f (target_call b c.args)) w h)
  call_of p w h (Host_native n) c =
      cond (is_refused n c.construct) (C.refused w h) (native_step p (C.native w h n c))
  call_of p w h Uncallable c = C.refused w h

  -- the step of a call whose operands are values
  abbrev pub call_step : Place → World → H → Value → NativeCall → Step R H
  call_step p w h f c = call_of p w h (called w f) c
