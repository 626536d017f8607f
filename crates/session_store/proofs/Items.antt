-- Payloads of items.
use Rattle.std.proofs.Common.{◌≡◌, ◌≢◌, ℕ, ◌+◌, ◌-◌, ◌<◌, ◌≤◌, List, [], ◌∷◌, ◌++◌, length, take, drop, sym, ◌∙◌, ap, subst, arith, append_assoc, length-append, length-drop}
use Rattle.std.proofs.lemmas.List.Elements.{All-head, All-tail, All-push}
use Rattle.std.proofs.lemmas.Grind.{flat_map-append}
use Rattle.std.proofs.lemmas.List.{append-nil, take_rest, drop-drop, drop_at}
use Rattle.input_log.specs.Items.{IsItem, BeginsWith, BeginsWithNone, encoding}
use Rattle.input_log.specs.declared.item.LogItem.{LogItem}
use Rattle.input_log.specs.declared.item.LogItem.TheVariants.{Head, Load, Now, Rand}
use Rattle.input_log.proofs.Laws.{same_item}
use Rattle.session_store.specs.Session.{AreItems, payload_of}

-- an item has bytes
pub no_bytes : (x : LogItem) (more rest : List ℕ) → (encoding x ++ more) ++ rest ≢ []
no_bytes (Head base budget page) more rest = λ e. cc
no_bytes (Load t) more rest = λ e. cc
no_bytes (Now v) more rest = λ e. cc
no_bytes (Rand w) more rest = λ e. cc

-- items, and then bytes that are none, are not the payload of other items
pub none_reads : (xs ys : List LogItem) (rest : List ℕ) → AreItems xs → AreItems ys → BeginsWithNone rest → rest ≢ [] → payload_of xs ++ rest ≢ payload_of ys
none_reads [] [] rest vx vy none some same = some same
none_reads [] (y ∷ ys) rest vx vy none some same = none y (payload_of ys) (All-head IsItem y ys vy) same
none_reads (x ∷ xs) [] rest vx vy none some same = no_bytes x (payload_of xs) rest same
none_reads (x ∷ xs) (y ∷ ys) rest vx vy none some same =
    let both = same_item x y (payload_of xs ++ rest) (payload_of ys) (All-head IsItem x xs vx) (All-head IsItem y ys vy) (sym (append_assoc (encoding x) (payload_of xs) rest) ∙ same) in
    none_reads xs ys rest (All-tail IsItem x xs vx) (All-tail IsItem y ys vy) none some both.1

-- one more item behind those read, by what the bytes from a place on begin with
pub one_more : (payload : List ℕ) (items : List LogItem) (item : LogItem) (at len : ℕ) → AreItems items → payload ≡ payload_of items ++ drop at payload → at ≤ length payload
    → BeginsWith (take (length payload - at) (drop at payload)) item len
    → (at + len ≤ length payload) × AreItems (items ++ item ∷ []) × (payload ≡ payload_of (items ++ item ∷ []) ++ drop (at + len) payload)
one_more payload items item at len valid is within begins =
    let here : drop at payload ≡ encoding item ++ begins.rest = sym (take_rest payload at) ∙ begins.is in
    let short : at + len ≤ length payload = omega (arith, begins.takes, ap length here, length-drop at payload, length-append (encoding item) begins.rest) in
    let behind : drop (at + len) payload ≡ begins.rest =
    sym (drop-drop len at payload) ∙ ap (drop len) here ∙ drop_at (encoding item) begins.rest len (sym begins.takes) in
    let joined : payload_of (items ++ item ∷ []) ≡ payload_of items ++ encoding item =
    flat_map-append encoding items (item ∷ []) ∙ ap (λ (l : List ℕ). payload_of items ++ l) (append-nil (encoding item)) in (
      short,
      All-push IsItem items item valid begins.valid,
      is ∙ ap (λ (l : List ℕ). payload_of items ++ l) (here ∙ ap (λ (l : List ℕ). encoding item ++ l) (sym behind))
          ∙ sym (append_assoc (payload_of items) (encoding item) (drop (at + len) payload)) ∙ ap (λ (l : List ℕ). l ++ drop (at + len) payload) (sym joined),
    )

-- where no item begins, no items are the whole
pub none_here : (payload : List ℕ) (items : List LogItem) (at : ℕ) → AreItems items → payload ≡ payload_of items ++ drop at payload → at < length payload
    → BeginsWithNone (take (length payload - at) (drop at payload)) → (ys : List LogItem) → AreItems ys → payload ≢ payload_of ys
none_here payload items at valid is within none ys valid_ys same =
    let P : List ℕ → Type 0 = λ l. BeginsWithNone l in
    none_reads items ys (drop at payload) valid valid_ys (subst P (take_rest payload at) none) (some_of (drop at payload) (omega (arith, length-drop at payload))) (sym is ∙ same)
  where
    some_of : (xs : List ℕ) → 0 < length xs → xs ≢ []
    some_of [] long = absurd (omega arith)
    some_of (x ∷ xs) long = λ e. cc
