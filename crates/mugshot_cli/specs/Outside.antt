-- What the outside shows at one moment: one value for the state before the call, and one for the
-- state after it.
use Rattle.std.specs.Prelude.{◌≡◌, ℕ, List, Option}
use Rattle.mug_outside.specs.declared.source.Source.{Ghosts as SourceGhosts}
use Rattle.mug_outside.specs.declared.sink.Sink.{Ghosts as SinkGhosts}
use Rattle.mug_disk.specs.declared.disk.Disk.{Ghosts as DiskGhosts}
use Rattle.capture_engine.specs.Outside.{Shown, shown}

-- what an output took, and its count of faults
pub record Stream : Type 0 where
  pub taken : Option (List ℕ)
  pub faults : ℕ

module _ {O : Type 0} (o : SinkGhosts O) where
  abbrev pub stream : O → Stream
  stream out = record { taken = o.taken out; faults = o.faults out }

-- what a source has left, and its count of faults
pub record Supply : Type 0 where
  pub left : Option (List ℕ)
  pub faults : ℕ

module _ {S : Type 0} (s : SourceGhosts S) where
  abbrev pub supply : S → Supply
  supply source = record { left = s.left source; faults = s.faults source }

-- the sources of page and arrivals, what disk and output show, and the output for refusals
pub record Outside : Type 0 where
  pub page : Supply
  pub arrivals : Supply
  pub shows : Shown
  pub err : Stream

module _ {P A D O : Type 0} (p : SourceGhosts P) (a : SourceGhosts A) (d : DiskGhosts D)
    (o : SinkGhosts O) where
  -- what these five show
  abbrev pub outside : P → A → D → O → Stream → Outside
  outside page arrivals disk out err = record {
    page = supply p page;
    arrivals = supply a arrivals;
    shows = shown d o disk out;
    err = err;
  }

-- nothing that disk and output show has changed but the counts of faults
pub record Still (before after : Shown) : Type 0 where
  pub held : after.held ≡ before.held
  pub moment : after.moment ≡ before.moment
  pub taken : after.taken ≡ before.taken

-- nothing was written to the disk
pub record IsUnwritten (before after : Shown) : Type 0 where
  pub held : after.held ≡ before.held
  pub moment : after.moment ≡ before.moment
