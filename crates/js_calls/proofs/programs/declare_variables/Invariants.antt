-- What was passed is declared, what the host holds is there, and no object and no scope went.
use Rattle.std.proofs.Common.{◌≡◌, drop}
use Rattle.js_host.specs.There.{AreThere}
use Rattle.js_reference.specs.Hosted.{hosted}
use Rattle.js_reference.specs.Later.{IsLater}
use Rattle.js_calls.specs.Programs.{declare_variables, window_handler}
use Rattle.js_calls.proofs.programs.declare_variables.Given as goal

abbrev pub invariant-loop-name : goal.invariant-loop-name
invariant-loop-name g l = record {
  there : AreThere l.heap (g.H.Host.names.host l.host);
  is : declare_variables (hosted g.H.Host.rows) (window_handler g.H.Host.rows)
      (drop l.name-index l.names) l.heap l.host
      ≡ declare_variables (hosted g.H.Host.rows) (window_handler g.H.Host.rows) l.names l.fn.heap
      l.host;
  later : IsLater l.fn.heap l.heap;
}
