-- Lines on their way to an output, of which a part was taken and the rest waits.
use Rattle.std.specs.Prelude.{◌≡◌, ℕ, ◌≤◌, List, ◌++◌, Result, IfErr, IsErrOf, OnOk}
use Rattle.mug_outside.specs.Told.{behind, TookLess, TookPart}
use Rattle.mug_outside.specs.Cause.{Rose}
use Rattle.mugshot_cli.specs.Outside.{Stream}
use Rattle.mugshot_cli.specs.declared.lines.PrintFault.{PrintFault}
use Rattle.mugshot_cli.specs.declared.lines.PrintFault.TheVariants.{WriteFault, NoMemory}

-- a text came after what waited: a part from the front of both was taken, and the rest waits
pub record Adds (text waits waits' : List ℕ) (before after : Stream) : Type 0 where
  pub part : List ℕ
  pub split : waits ++ text ≡ part ++ waits'
  pub took : after.taken ≡ behind part before.taken

-- what of a text was taken where its printing failed: a part from the front, and where the output
-- failed not the whole
abbrev pub Broke : PrintFault → List ℕ → Stream → Stream → Type 0
Broke WriteFault text before after = TookLess text before.taken after.taken
Broke NoMemory text before after = TookPart text before.taken after.taken

-- what a call came to that prints
abbrev pub Printed : Type 0
Printed = Result Unit PrintFault

-- what a call came to that puts a text after what waits
pub record Puts (result : Printed) (text waits waits' : List ℕ)
    (before after : Stream) : Type 0 where
  pub ok : OnOk result (Adds text waits waits' before after)
  pub err : IfErr result (λ fault. Broke fault (waits ++ text) before after)
  pub rose : IsErrOf result WriteFault → Rose before.faults after.faults
  pub later : before.faults ≤ after.faults

-- what a call came to that prints a text to its end
pub record Prints (result : Printed) (text : List ℕ) (before after : Stream) : Type 0 where
  pub ok : OnOk result (after.taken ≡ behind text before.taken)
  pub err : IfErr result (λ fault. Broke fault text before after)
  pub rose : IsErrOf result WriteFault → Rose before.faults after.faults
  pub later : before.faults ≤ after.faults
