-- What a command finds in a session before it does anything with the items.
use Rattle.std.specs.Prelude.{◌≡◌, ℕ, Bool, ◌&&◌, ◌||◌, ◌==◌, nat_le, true, List, ◌∷◌, ◌++◌}
use Rattle.std.specs.Prelude.{Option, IfSome}
use Rattle.mug_outside.specs.Cause.{Rose}
use Rattle.input_log.specs.declared.item.LogItem.{LogItem}
use Rattle.session_store.specs.Session.{AreItems, payload_of}
use Rattle.session_store.specs.Recovery.{NoHeader, Broken, Recovers}
use Rattle.mugshot_cli.specs.declared.session.SessionRefusal.{SessionRefusal}
use Rattle.mugshot_cli.specs.declared.session.SessionRefusal.TheVariants.{NotASession, Damaged}
use Rattle.mugshot_cli.specs.declared.session.SessionRefusal.TheVariants.{NotBuilt, DiskFault}
use Rattle.mugshot_cli.specs.declared.session.SessionRefusal.TheVariants.{NoMemory}

-- the first byte of an item of a kind that isn't read yet: 1, 2, or 4 to 8
abbrev pub is_later_kind : ℕ → Bool
is_later_kind b = b == 1 || (b == 2 || (nat_le 4 b && nat_le b 8))

-- the first item of the payload that isn't read is of such a kind
pub record HasLaterKind (payload : List ℕ) : Type 0 where
  pub items : List LogItem
  pub byte : ℕ
  pub rest : List ℕ
  pub valid : AreItems items
  pub later : is_later_kind byte ≡ true
  pub is : payload ≡ payload_of items ++ byte ∷ rest

-- the frame whose length stands at this offset doesn't read, and is of no such kind
abbrev pub IsDamaged : List ℕ → ℕ → Type 0
IsDamaged bytes at =
    (payload : List ℕ) × Recovers bytes (Broken at payload) × (HasLaterKind payload → ⊥)

-- the first frame that doesn't read is of such a kind
abbrev pub IsUnbuilt : List ℕ → Type 0
IsUnbuilt bytes =
    (at : ℕ) × (payload : List ℕ) × Recovers bytes (Broken at payload) × HasLaterKind payload

-- why a session is not read: by its bytes, where they are told, and by the disk's count of faults
abbrev pub IsRefused : SessionRefusal → Option (List ℕ) → ℕ → ℕ → Type 0
IsRefused NotASession held faults faults' = IfSome held (λ bytes. Recovers bytes NoHeader)
IsRefused (Damaged at) held faults faults' = IfSome held (λ bytes. IsDamaged bytes at)
IsRefused NotBuilt held faults faults' = IfSome held IsUnbuilt
IsRefused DiskFault held faults faults' = Rose faults faults'
IsRefused NoMemory held faults faults' = Unit {0}
