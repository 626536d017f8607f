-- Each native stands in the table at its number, and nowhere else.
use Rattle.std.proofs.Common.{◌≡◌, ℕ, zero, suc, ◌+◌, List, [], ◌∷◌, Bool, true, false, ◌&&◌, Option, Some, None, nat_eq, slice_get, refl, ap, sym, ◌∙◌, arith, add-zero}
use Rattle.std.specs.Option.{option_map}
use Rattle.std.proofs.lemmas.Bool.{eqb-true}
use Rattle.js_host.specs.Natives.{named_at, native_at, natives}
use Rattle.js_host.specs.Numbers.{number_of}
use Rattle.js_host.specs.declared.native.Builtin.{Builtin}
use Rattle.js_host.specs.declared.native.Builtin.TheVariants as builtin
use Rattle.js_host.specs.declared.native.Native.{Native}

pub named-number : (b : Builtin) → named_at (number_of b) ≡ Some b
unfolding natives number_of
named-number builtin.ParseInt = refl
named-number builtin.IsNaN = refl
named-number builtin.SetTimeout = refl
named-number builtin.SetInterval = refl
named-number builtin.ClearTimeout = refl
named-number builtin.ClearInterval = refl
named-number builtin.ConsoleLog = refl
named-number builtin.Object = refl
named-number builtin.ObjectKeys = refl
named-number builtin.ObjectCreate = refl
named-number builtin.ObjectGetPrototypeOf = refl
named-number builtin.ObjectHasOwnProperty = refl
named-number builtin.ObjectToString = refl
named-number builtin.ObjectValueOf = refl
named-number builtin.FunctionCall = refl
named-number builtin.FunctionApply = refl
named-number builtin.FunctionBind = refl
named-number builtin.FunctionToString = refl
named-number builtin.Array = refl
named-number builtin.ArrayIsArray = refl
named-number builtin.ArrayPush = refl
named-number builtin.ArrayPop = refl
named-number builtin.ArrayShift = refl
named-number builtin.ArrayUnshift = refl
named-number builtin.ArraySplice = refl
named-number builtin.ArrayReverse = refl
named-number builtin.ArraySlice = refl
named-number builtin.ArrayConcat = refl
named-number builtin.ArrayJoin = refl
named-number builtin.ArrayIndexOf = refl
named-number builtin.ArrayForEach = refl
named-number builtin.ArrayMap = refl
named-number builtin.ArrayFilter = refl
named-number builtin.ArraySome = refl
named-number builtin.ArrayEvery = refl
named-number builtin.ArrayReduce = refl
named-number builtin.String = refl
named-number builtin.Number = refl
named-number builtin.Boolean = refl
named-number builtin.StringCharAt = refl
named-number builtin.StringCharCodeAt = refl
named-number builtin.StringIndexOf = refl
named-number builtin.StringSlice = refl
named-number builtin.StringSubstring = refl
named-number builtin.StringSplit = refl
named-number builtin.StringTrim = refl
named-number builtin.StringConcat = refl
named-number builtin.StringToString = refl
named-number builtin.StringValueOf = refl
named-number builtin.NumberToString = refl
named-number builtin.NumberValueOf = refl
named-number builtin.BooleanToString = refl
named-number builtin.BooleanValueOf = refl
named-number builtin.MathAbs = refl
named-number builtin.MathFloor = refl
named-number builtin.MathMin = refl
named-number builtin.MathMax = refl
named-number builtin.MathIdiv = refl
named-number builtin.MathRandom = refl
named-number builtin.Date = refl
named-number builtin.DateNow = refl
named-number builtin.DateGetTime = refl
named-number builtin.DateValueOf = refl
named-number builtin.DateToString = refl
named-number builtin.Error = refl
named-number builtin.TypeError = refl
named-number builtin.RangeError = refl
named-number builtin.ReferenceError = refl
named-number builtin.SyntaxError = refl
named-number builtin.ErrorToString = refl
named-number builtin.GetElementById = refl
named-number builtin.CreateElement = refl
named-number builtin.CreateTextNode = refl
named-number builtin.NodeAppendChild = refl
named-number builtin.NodeInsertBefore = refl
named-number builtin.NodeRemoveChild = refl
named-number builtin.NodeGetAttribute = refl
named-number builtin.NodeSetAttribute = refl
named-number builtin.NodeRemoveAttribute = refl
named-number builtin.AddEventListener = refl
named-number builtin.RemoveEventListener = refl
named-number builtin.DispatchEvent = refl
named-number builtin.Event = refl
named-number builtin.EventPreventDefault = refl
named-number builtin.EventStopPropagation = refl
named-number builtin.EventStopImmediatePropagation = refl
named-number builtin.XMLHttpRequest = refl
named-number builtin.RequestOpen = refl
named-number builtin.RequestSetRequestHeader = refl
named-number builtin.RequestSend = refl
named-number builtin.RequestAbort = refl

-- these rows are numbered from this number on
abbrev numbered : ℕ → List Native → Bool
numbered k [] = true
numbered k (r ∷ rs) = nat_eq (number_of r.name) k && numbered (suc k) rs

all-numbered : numbered 0 natives ≡ true
unfolding natives number_of
all-numbered = refl

and-left : (a b : Bool) → a && b ≡ true → a ≡ true
and-left true b e = refl
and-left false b e = cc

and-right : (a b : Bool) → a && b ≡ true → b ≡ true
and-right true b e = e
and-right false b e = cc

numbered-at : (k : ℕ) (rs : List Native) (n : ℕ) (r : Native) → numbered k rs ≡ true → slice_get rs n ≡ Some r → number_of r.name ≡ k + n
numbered-at k [] n r e g = cc
numbered-at k (q ∷ rs) zero r e g =
    let same : q ≡ r = cc in
    ap (λ x. number_of x.name) (sym same) ∙ (eqb-true (number_of q.name) k (and-left (nat_eq (number_of q.name) k) (numbered (suc k) rs) e) ∙ sym (add-zero k))
numbered-at k (q ∷ rs) (suc n) r e g =
    let i : number_of r.name ≡ suc k + n = numbered-at (suc k) rs n r (and-right (nat_eq (number_of q.name) k) (numbered (suc k) rs) e) g in
    let s : suc k + n ≡ k + suc n = omega arith in
    i ∙ s

named-some : (n : ℕ) (o : Option Native) (b : Builtin) → native_at n ≡ o → option_map (λ row. row.name) o ≡ Some b → number_of b ≡ n
named-some n None b e m = cc
named-some n (Some r) b e m =
    let same : r.name ≡ b = cc in
    let i : number_of r.name ≡ 0 + n = numbered-at 0 natives n r all-numbered e in
    let s : 0 + n ≡ n = omega arith in
    ap number_of (sym same) ∙ (i ∙ s)

pub number-named : (n : ℕ) (b : Builtin) → named_at n ≡ Some b → number_of b ≡ n
number-named n b m = named-some n (native_at n) b refl m
