-- What was passed is declared, what the host holds is there, and no object and no scope went.
use Rattle.std.proofs.Common.{◌≡◌, drop}
use Rattle.js_host.specs.There.{AreThere}
use Rattle.js_reference.specs.Hosted.{hosted}
use Rattle.js_reference.specs.Later.{IsLater}
use Rattle.js_calls.specs.Programs.{declare_functions, window_handler}
use Rattle.js_calls.proofs.programs.declare_functions.Given as goal

abbrev pub invariant-loop-declared : goal.invariant-loop-declared
invariant-loop-declared g l = record {
  there : AreThere l.heap (g.H.Host.names.host l.host);
  is : declare_functions (hosted g.H.Host.rows) (window_handler g.H.Host.rows) l.text l.functions
      l.fn.heap l.fn.host
      ≡ declare_functions (hosted g.H.Host.rows) (window_handler g.H.Host.rows) l.text
      (drop l.declared-index l.functions) l.heap l.host;
  later : IsLater l.fn.heap l.heap;
}
