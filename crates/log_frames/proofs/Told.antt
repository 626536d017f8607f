-- What a reader learns from a disk that tells its bytes.
use Rattle.std.proofs.Common.{◌≡◌, ◌≢◌, ℕ, ◌+◌, ◌-◌, ◌<◌, ◌≤◌, List, [], ◌∷◌, ◌++◌, length, take, drop, Some, None, Option, IfSome, sym, ◌∙◌, ap, subst, arith, append_assoc, length-drop}
use Rattle.std.specs.Int.{to_be_bytes, w32}
use Rattle.std.proofs.lemmas.List.{take-append-drop, drop-drop, length-take-le, take_all}
use Rattle.log_frames.specs.Frames.{OpensFrame, OpensNone}
use Rattle.log_frames.specs.Reading.{SaysSize}

pub some_of : (xs : List ℕ) → 0 < length xs → xs ≢ []
some_of [] long = absurd (omega arith)
some_of (x ∷ xs) long = λ e. cc

-- the bytes told say a size, and more bytes than that follow
pub whole_at : (h front payload : List ℕ) (at n size : ℕ) → take n front ≡ take 5 (drop at h) → SaysSize (take n front) size → 5 + size < length h - at
    → payload ≡ take size (drop (at + 5) h) → OpensFrame (drop at h) payload (drop (at + 5 + size) h)
whole_at h front payload at n size is says long read =
    let size_is : length payload ≡ size = ap length read ∙ length-take-le size (drop (at + 5) h) (omega (arith, length-drop (at + 5) h)) in
    let five : take 5 (drop at h) ≡ 1 ∷ to_be_bytes w32 size = sym is ∙ says.is in
    let behind : drop 5 (drop at h) ≡ payload ++ drop (at + 5 + size) h =
    drop-drop 5 at h ∙ sym (take-append-drop size (drop (at + 5) h)) ∙ (λ i. sym read i ++ drop-drop size (at + 5) h i) in
    record {
      sized = let small = says.fits in omega arith;
      gate = some_of _ (omega (arith, length-drop (at + 5 + size) h));
      is = sym (take-append-drop 5 (drop at h)) ∙ (λ i. five i ++ behind i) ∙ joined (to_be_bytes w32 size) payload (drop (at + 5 + size) h) ∙ ap (λ k. 1 ∷ ((to_be_bytes w32 k ++ payload) ++ drop (at + 5 + size) h)) (sym size_is);
    }
  where
    joined : (digits payload rest : List ℕ) → (1 ∷ digits) ++ (payload ++ rest) ≡ 1 ∷ ((digits ++ payload) ++ rest)
    joined digits payload rest = ap (λ (l : List ℕ). 1 ∷ l) (sym (append_assoc digits payload rest))

-- a read that ends within the file gives all that was asked for
pub got_all : (h piece : List ℕ) (p got : ℕ) → take got piece ≡ take (length piece) (drop p h) → got ≤ length piece → p + length piece < length h → got ≡ length piece
got_all h piece p got is fits long =
    sym (length-take-le got piece fits) ∙ ap length is ∙ length-take-le (length piece) (drop p h) (omega (arith, length-drop p h))

-- a read that ends within the file isn't short
pub no_loss : (o o' : Option (List ℕ)) (piece : List ℕ) (start p got len : ℕ) → o' ≡ o → IfSome o (λ h. len ≡ length h) → IfSome o' (λ h. take got piece ≡ take (length piece) (drop p h))
    → got < length piece → p + length piece < len → IfSome o (λ h. OpensNone (drop start h))
no_loss None o' piece start p got len same told read few long = tt
no_loss (Some h) None piece start p got len same told read few long = absurd (cc)
no_loss (Some h) (Some k) piece start p got len same told read few long =
    let e : k ≡ h = cc in
    absurd (let e = got_all k piece p got read (omega arith) (omega (arith, ap length e)) in omega arith)

-- what was read of a frame that ends within the file
pub tell_whole : (o o' : Option (List ℕ)) (front piece payload : List ℕ) (start at p q n got size len : ℕ) → o' ≡ o → at ≡ start → p ≡ at + 5 → q ≡ p + size → payload ≡ piece → length piece ≡ size
    → IfSome o (λ h. len ≡ length h) → IfSome o (λ h. take n front ≡ take (length front) (drop at h)) → length front ≡ 5 → SaysSize (take n front) size → 5 + size < len - at
    → IfSome o' (λ h. take got piece ≡ take (length piece) (drop p h)) → length piece ≤ got → IfSome o (λ h. OpensFrame (drop start h) payload (drop q h))
tell_whole None o' front piece payload start at p q n got size len same begins place next piece_is size_is told first five says long read all = tt
tell_whole (Some h) None front piece payload start at p q n got size len same begins place next piece_is size_is told first five says long read all = absurd (cc)
tell_whole (Some h) (Some k) front piece payload start at p q n got size len same begins place next piece_is size_is told first five says long read all =
    let e : k ≡ h = cc in
    let taken : piece ≡ take size (drop (at + 5) h) =
    sym (take_all got piece all) ∙ read ∙ (λ i. take (size_is i) (drop (place i) (e i))) in
    let here : take n front ≡ take 5 (drop at h) = first ∙ ap (λ w. take w (drop at h)) five in
    let found : OpensFrame (drop at h) payload (drop (at + 5 + size) h) = whole_at h front payload at n size here says (omega arith) (piece_is ∙ taken) in
    let ends : at + 5 + size ≡ q = omega arith in
    subst (λ (w : ℕ × ℕ). OpensFrame (drop w.0 h) payload (drop w.1 h)) (λ i. (begins i, ends i)) found
