-- Texts that are put one after another, and where their printing fails.
use Rattle.std.proofs.Common.{◌≡◌, ℕ, ◌+◌, ◌<◌, ◌≤◌, List, [], ◌∷◌, ◌++◌, length, take, drop, get_or, Option, Result, Ok, Err, refl, sym, ◌∙◌, ap, subst, arith, append_assoc}
use Rattle.std.specs.List.{flat_map}
use Rattle.std.proofs.lemmas.Grind.{flat_map-append}
use Rattle.std.proofs.lemmas.List.{append-nil, take-append-drop, drop_more, take_more}
use Rattle.mug_outside.specs.Cause.{Rose}
use Rattle.mug_outside.specs.Told.{behind, TookLess, TookPart}
use Rattle.mug_outside.proofs.Told.{behind_behind, behind_nil}
use Rattle.capture_engine.proofs.Records.{rose_later}
use Rattle.mugshot_cli.specs.Outside.{Stream}
use Rattle.mugshot_cli.specs.inner.Lines.{Adds, Broke, Prints, Puts}
use Rattle.mugshot_cli.specs.declared.lines.PrintFault.{PrintFault}
use Rattle.mugshot_cli.specs.declared.lines.PrintFault.TheVariants.{WriteFault, NoMemory}

-- ---- what was taken

pub adds_none : (waits : List ℕ) (s : Stream) → Adds [] waits waits s s
adds_none waits s = record { part = []; split = append-nil waits; took = sym (behind_nil s.taken) }

-- the text was put into the buffer
pub adds_pushed : {waits mid : List ℕ} {s t : Stream} (text waits' : List ℕ) → Adds [] waits mid s t → waits' ≡ mid ++ text → Adds text waits waits' s t
adds_pushed {waits} {mid} text waits' adds pushed = record {
  part = adds.part;
  split = ap (λ (l : List ℕ). l ++ text) (sym (append-nil waits) ∙ adds.split) ∙ append_assoc adds.part mid text ∙ ap (λ (l : List ℕ). adds.part ++ l) (sym pushed);
  took = adds.took;
}

pub adds_then : {w0 w1 w2 : List ℕ} {s0 s1 s2 : Stream} (a b : List ℕ) → Adds a w0 w1 s0 s1 → Adds b w1 w2 s1 s2 → Adds (a ++ b) w0 w2 s0 s2
adds_then {w0} {w1} {w2} {s0} a b first second = record {
  part = first.part ++ second.part;
  split =
      sym (append_assoc w0 a b) ∙ ap (λ (l : List ℕ). l ++ b) first.split ∙ append_assoc first.part w1 b ∙ ap (λ (l : List ℕ). first.part ++ l) second.split
      ∙ sym (append_assoc first.part second.part w2);
  took = second.took ∙ ap (behind second.part) first.took ∙ behind_behind first.part second.part s0.taken;
}

-- ---- where it failed

less_more : (text more : List ℕ) (s t : Option (List ℕ)) → TookLess text s t → TookLess (text ++ more) s t
less_more text more s t (part, byte, rest, split, took) = (part, byte, rest ++ more, ap (λ (l : List ℕ). l ++ more) split ∙ append_assoc part (byte ∷ rest) more, took)

part_more : (text more : List ℕ) (s t : Option (List ℕ)) → TookPart text s t → TookPart (text ++ more) s t
part_more text more s t (part, rest, split, took) = (part, rest ++ more, ap (λ (l : List ℕ). l ++ more) split ∙ append_assoc part rest more, took)

pub broke_more : (fault : PrintFault) (text more : List ℕ) (s t : Stream) → Broke fault text s t → Broke fault (text ++ more) s t
broke_more WriteFault text more s t broke = less_more text more s.taken t.taken broke
broke_more NoMemory text more s t broke = part_more text more s.taken t.taken broke

less_front : (front text : List ℕ) (s m t : Option (List ℕ)) → m ≡ behind front s → TookLess text m t → TookLess (front ++ text) s t
less_front front text s m t is (part, byte, rest, split, took) = (
  front ++ part,
  byte,
  rest,
  ap (λ (l : List ℕ). front ++ l) split ∙ sym (append_assoc front part (byte ∷ rest)),
  took ∙ ap (behind part) is ∙ behind_behind front part s,
)

part_front : (front text : List ℕ) (s m t : Option (List ℕ)) → m ≡ behind front s → TookPart text m t → TookPart (front ++ text) s t
part_front front text s m t is (part, rest, split, took) =
    (front ++ part, rest, ap (λ (l : List ℕ). front ++ l) split ∙ sym (append_assoc front part rest), took ∙ ap (behind part) is ∙ behind_behind front part s)

broke_front : (fault : PrintFault) (front text : List ℕ) (s m t : Stream) → m.taken ≡ behind front s.taken → Broke fault text m t → Broke fault (front ++ text) s t
broke_front WriteFault front text s m t is broke = less_front front text s.taken m.taken t.taken is broke
broke_front NoMemory front text s m t is broke = part_front front text s.taken m.taken t.taken is broke

-- the second of two texts was not put
pub broke_after : {w0 w1 : List ℕ} {s0 s1 : Stream} (s2 : Stream) (fault : PrintFault) (a b : List ℕ) → Adds a w0 w1 s0 s1 → Broke fault (w1 ++ b) s1 s2 → Broke fault (w0 ++ (a ++ b)) s0 s2
broke_after {w0} {w1} {s0} {s1} s2 fault a b adds broke =
    let whole : w0 ++ (a ++ b) ≡ adds.part ++ (w1 ++ b) = sym (append_assoc w0 a b) ∙ ap (λ (l : List ℕ). l ++ b) adds.split ∙ append_assoc adds.part w1 b in
    subst (λ (l : List ℕ). Broke fault l s0 s2) (sym whole) (broke_front fault adds.part (w1 ++ b) s0 s1 s2 adds.took broke)

-- neither it nor what follows it
pub broke_within : {w0 w1 : List ℕ} {s0 s1 : Stream} (s2 : Stream) (fault : PrintFault) (all a b more : List ℕ) → all ≡ a ++ (b ++ more) → Adds a w0 w1 s0 s1 → Broke fault (w1 ++ b) s1 s2 → Broke fault (w0 ++ all) s0 s2
broke_within {w0} {w1} {s0} {s1} s2 fault all a b more whole adds broke =
    let longer = subst (λ (l : List ℕ). Broke fault l s1 s2) (append_assoc w1 b more) (broke_more fault (w1 ++ b) more s1 s2 broke) in
    subst (λ (l : List ℕ). Broke fault (w0 ++ l) s0 s2) (sym whole) (broke_after s2 fault a (b ++ more) adds longer)

-- there was no memory to go on
pub starved_within : {w0 w1 : List ℕ} {s0 s1 : Stream} (all a more : List ℕ) → all ≡ a ++ more → Adds a w0 w1 s0 s1 → TookPart (w0 ++ all) s0.taken s1.taken
starved_within {w0} {w1} all a more whole adds = (
  adds.part,
  w1 ++ more,
  ap (λ (l : List ℕ). w0 ++ l) whole ∙ sym (append_assoc w0 a more) ∙ ap (λ (l : List ℕ). l ++ more) adds.split ∙ append_assoc adds.part w1 more,
  adds.took,
)

-- ---- calls, one after another

pub puts_ok : {text waits waits' : List ℕ} {s t : Stream} (x : Unit {0}) → Adds text waits waits' s t → s.faults ≤ t.faults → Puts (Ok x) text waits waits' s t
puts_ok x adds later = record { ok = adds; err = tt; rose = λ e. absurd (cc); later = later }

pub puts_then : {w0 w1 w2 : List ℕ} {s0 s1 s2 : Stream} (r : Result (Unit {0}) PrintFault) (a b : List ℕ) → Adds a w0 w1 s0 s1 → s0.faults ≤ s1.faults → Puts r b w1 w2 s1 s2 → Puts r (a ++ b) w0 w2 s0 s2
puts_then {w0} {w1} {w2} {s0} {s1} {s2} (Ok x) a b adds later puts = record { ok = adds_then a b adds puts.ok; err = tt; rose = λ e. absurd (cc); later = omega (arith, later, puts.later) }
puts_then {w0} {w1} {w2} {s0} {s1} {s2} (Err fault) a b adds later puts = record {
  ok = tt;
  err = broke_after s2 fault a b adds puts.err;
  rose = λ e. rose_later s0.faults s1.faults s2.faults later (puts.rose e);
  later = omega (arith, later, puts.later);
}

-- the first of two failed
pub puts_failed : {waits mid : List ℕ} {s t : Stream} {fault : PrintFault} (a b waits' : List ℕ) → Puts (Err fault) a waits mid s t → Puts (Err fault) (a ++ b) waits waits' s t
puts_failed {waits} {mid} {s} {t} {fault} a b waits' puts = record {
  ok = tt;
  err = subst (λ (l : List ℕ). Broke fault l s t) (append_assoc waits a b) (broke_more fault (waits ++ a) b s t puts.err);
  rose = puts.rose;
  later = puts.later;
}

pub puts_same : {r : Result (Unit {0}) PrintFault} {waits waits' : List ℕ} {s t : Stream} (a b : List ℕ) → a ≡ b → Puts r a waits waits' s t → Puts r b waits waits' s t
puts_same {r} {waits} {waits'} {s} {t} a b same puts = subst (λ (l : List ℕ). Puts r l waits waits' s t) same puts

-- an empty text
pub puts_nothing : {s : Stream} (x : Unit {0}) (text waits : List ℕ) → text ≡ [] → Puts (Ok x) text waits waits s s
puts_nothing {s} x text waits none = puts_ok x (subst (λ (l : List ℕ). Adds l waits waits s s) (sym none) (adds_none waits s)) (omega arith)

-- there was no memory for the text
pub puts_starved : {s : Stream} (text waits waits' : List ℕ) → Puts (Err NoMemory) text waits waits' s s
puts_starved {s} text waits waits' = record { ok = tt; err = ([], waits ++ text, refl, sym (behind_nil s.taken)); rose = λ e. absurd (cc); later = omega arith }

-- all was put and nothing waits
pub prints_all : {waits waits' : List ℕ} {s t : Stream} (r : Result (Unit {0}) PrintFault) (text : List ℕ) → waits ≡ [] → Puts r text waits waits' s t → waits' ≡ [] → Prints r text s t
prints_all {waits} {waits'} {s} {t} (Ok x) text first puts none =
    let adds = puts.ok in
    let same : adds.part ≡ text = sym (ap (λ (l : List ℕ). l ++ text) (sym first) ∙ adds.split ∙ ap (λ (l : List ℕ). adds.part ++ l) none ∙ append-nil adds.part) in
    record { ok = adds.took ∙ ap (λ (l : List ℕ). behind l s.taken) same; err = tt; rose = λ e. absurd (cc); later = puts.later }
prints_all {waits} {waits'} {s} {t} (Err fault) text first puts none =
    record { ok = tt; err = subst (λ (l : List ℕ). Broke fault (l ++ text) s t) first puts.err; rose = puts.rose; later = puts.later }

-- a text that was not put is not printed
pub prints_failed : {waits waits' : List ℕ} {s t : Stream} {fault : PrintFault} (text : List ℕ) → waits ≡ [] → Puts (Err fault) text waits waits' s t → Prints (Err fault) text s t
prints_failed {waits} {waits'} {s} {t} {fault} text first puts =
    record { ok = tt; err = subst (λ (l : List ℕ). Broke fault (l ++ text) s t) first puts.err; rose = puts.rose; later = puts.later }

-- ---- the text of each of many

pub flat_more : {A : Type 0} (text : A → List ℕ) (xs : List A) (i : ℕ) (d : A) → i < length xs → flat_map text (take (i + 1) xs) ≡ flat_map text (take i xs) ++ text (get_or xs i d)
flat_more text xs i d within =
    ap (flat_map text) (take_more xs i d within) ∙ flat_map-append text (take i xs) (get_or xs i d ∷ []) ∙ ap (λ (l : List ℕ). flat_map text (take i xs) ++ l) (append-nil (text (get_or xs i d)))

pub flat_at : {A : Type 0} (text : A → List ℕ) (xs : List A) (i : ℕ) (d : A) → i < length xs → flat_map text xs ≡ flat_map text (take i xs) ++ (text (get_or xs i d) ++ flat_map text (drop (i + 1) xs))
flat_at {A} text xs i d within =
    let split : xs ≡ take i xs ++ (get_or xs i d ∷ drop (i + 1) xs) = sym (take-append-drop i xs) ∙ ap (λ (l : List A). take i xs ++ l) (drop_more xs i d within) in
    ap (flat_map text) split ∙ flat_map-append text (take i xs) (get_or xs i d ∷ drop (i + 1) xs)

-- the text of one more was put
pub adds_more : {A : Type 0} {w0 w1 w2 : List ℕ} {s0 s1 s2 : Stream} (text : A → List ℕ) (xs : List A) (i : ℕ) (x : A) → i < length xs → x ≡ get_or xs i x
    → Adds (flat_map text (take i xs)) w0 w1 s0 s1 → Adds (text x) w1 w2 s1 s2 → Adds (flat_map text (take (i + 1) xs)) w0 w2 s0 s2
adds_more {A} {w0} {w1} {w2} {s0} {s1} {s2} text xs i x within is first second =
    subst (λ (l : List ℕ). Adds l w0 w2 s0 s2) (ap (λ (l : List ℕ). flat_map text (take i xs) ++ l) (ap text is) ∙ sym (flat_more text xs i x within)) (adds_then (flat_map text (take i xs)) (text x) first second)

-- it was not
pub puts_not_at : {A : Type 0} {w0 w1 w2 : List ℕ} {s0 s1 s2 : Stream} {fault : PrintFault} (text : A → List ℕ) (xs : List A) (i : ℕ) (x : A) (waits : List ℕ) → i < length xs → x ≡ get_or xs i x
    → Adds (flat_map text (take i xs)) w0 w1 s0 s1 → s0.faults ≤ s1.faults → Puts (Err fault) (text x) w1 w2 s1 s2 → Puts (Err fault) (flat_map text xs) w0 waits s0 s2
puts_not_at {A} {w0} {w1} {w2} {s0} {s1} {s2} {fault} text xs i x waits within is first later puts = record {
  ok = tt;
  err =
      broke_within s2 fault (flat_map text xs) (flat_map text (take i xs)) (text x) (flat_map text (drop (i + 1) xs))
      (flat_at text xs i x within ∙ ap (λ (l : List ℕ). flat_map text (take i xs) ++ (l ++ flat_map text (drop (i + 1) xs))) (sym (ap text is))) first puts.err;
  rose = λ e. rose_later s0.faults s1.faults s2.faults later (puts.rose e);
  later = omega (arith, later, puts.later);
}

-- a text was written with nothing waiting before it
pub puts_written : {waits waits' : List ℕ} {s t : Stream} (x : Unit {0}) (text : List ℕ) → waits ≡ [] → waits' ≡ [] → t.taken ≡ behind text s.taken → s.faults ≤ t.faults → Puts (Ok x) text waits waits' s t
puts_written x text none none' took later =
    puts_ok x (record { part = text; split = ap (λ (l : List ℕ). l ++ text) none ∙ sym (append-nil text) ∙ ap (λ (l : List ℕ). text ++ l) (sym none'); took = took }) later

-- a part of it was
pub puts_lost : {waits : List ℕ} {s t : Stream} (text waits' : List ℕ) → waits ≡ [] → TookLess text s.taken t.taken → Rose s.faults t.faults → s.faults ≤ t.faults → Puts (Err WriteFault) text waits waits' s t
puts_lost {waits} {s} {t} text waits' none less rose later =
    record { ok = tt; err = subst (λ (l : List ℕ). TookLess (l ++ text) s.taken t.taken) (sym none) less; rose = λ e. rose; later = later }

-- nothing waited before a text, which is this one
pub none_first : {waits : List ℕ} (s t : Stream) (fault : PrintFault) (text all : List ℕ) → waits ≡ [] → text ≡ all → Broke fault (waits ++ text) s t → Broke fault all s t
none_first {waits} s t fault text all none same broke = subst (λ (l : List ℕ). Broke fault l s t) (ap (λ (l : List ℕ). l ++ text) none ∙ same) broke

-- all of it was taken
pub all_taken : {waits waits' : List ℕ} {s t : Stream} (text all : List ℕ) → waits ≡ [] → text ≡ all → Adds text waits waits' s t → waits' ≡ [] → t.taken ≡ behind all s.taken
all_taken {waits} {waits'} {s} {t} text all first same adds none =
    adds.took ∙ ap (λ (l : List ℕ). behind l s.taken) (sym (append-nil adds.part) ∙ ap (λ (l : List ℕ). adds.part ++ l) (sym none) ∙ sym adds.split ∙ ap (λ (l : List ℕ). l ++ text) first ∙ same)

-- the first of two texts was not put
pub broke_first : (waits : List ℕ) (s t : Stream) (fault : PrintFault) (a b : List ℕ) → Broke fault (waits ++ a) s t → Broke fault (waits ++ (a ++ b)) s t
broke_first waits s t fault a b broke = subst (λ (l : List ℕ). Broke fault l s t) (append_assoc waits a b) (broke_more fault (waits ++ a) b s t broke)
