-- What a call names is there, also beside a host without lines.
use Rattle.std.proofs.Common.{◌≡◌, ℕ, ◌+◌, ◌<◌, List, [], ◌∷◌, ◌++◌, get_or, length, take, ap, sym, subst, ◌∙◌}
use Rattle.std.proofs.lemmas.List.{take_more}
use Rattle.js_value.specs.declared.value.Value.{Value}
use Rattle.js_heap.specs.Closed.{IsThere}
use Rattle.js_heap.specs.World.{World}
use Rattle.js_host.specs.Names.{call_names}
use Rattle.js_host.specs.There.{AreThere}
use Rattle.js_host.specs.declared.call.NativeCall.{NativeCall}
use Rattle.js_host.proofs.Lists.{each-append}
use Rattle.console_host.specs.Console.{lines_values}
use Rattle.console_host.specs.declared.line.Line.{Line}

pub there_more : (w : World) (vs : List Value) (i : ℕ) (v : Value) → i < length vs → v ≡ get_or vs i v → AreThere w (take i vs) → IsThere w v
    → AreThere w (take (i + 1) vs)
there_more w vs i v l is front here =
    subst (AreThere w) (sym (take_more vs i v l ∙ ap (λ x. take i vs ++ x ∷ []) (sym is))) (each-append (IsThere w) (take i vs) (v ∷ []) front (here, tt))

pub call_there : (w : World) (c : NativeCall) (ls : List Line) → ls ≡ [] → AreThere w c.args → IsThere w c.this
    → AreThere w (call_names c (lines_values ls))
call_there w c ls none args this =
    subst (λ ls. AreThere w (call_names c (lines_values ls))) (sym none) (this, each-append (IsThere w) c.args [] args tt)
