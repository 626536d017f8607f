-- A line is split at its first space and its line feed.
use Rattle.std.proofs.Common.{◌≡◌, ◌≢◌, ℕ, ◌⊎◌, inl, inr, true, false, ◌==◌, List, [], ◌∷◌, ◌++◌, Option, None, Some, Ok, Err, option_map, ok_or, refl, ◌∙◌, ap, arith}
use Rattle.std.proofs.lemmas.List.{append-nil}
use Rattle.std.proofs.lemmas.List.Elements.{All-head, All-tail}
use Rattle.std.proofs.lemmas.Bool.{cond-true, cond-false}
use Rattle.std.proofs.lemmas.Bool.Decides.{nat_tests}
use Rattle.arrival_file.specs.declared.arrival.ArrivalKind.TheVariants.{Form}
use Rattle.arrival_file.specs.declared.stop.Stop.TheVariants.{Breaks, NotBuilt}
use Rattle.arrival_file.specs.Lines.{Line, is_end, is_later, line_of, longer, whole_line, word_of}
use Rattle.arrival_file.specs.inner.Split.{EndsField, HasNone, HasOtherCount, IsField}

abbrev IsPlain : ℕ → Type 0
IsPlain b = (b ≢ 32) × (b ≢ 10)

is_no : (x y : ℕ) → x ≢ y → (x == y) ≡ false
is_no x y other = grind (arith, nat_tests)

ends_at : (b : ℕ) → (b ≡ 32) ⊎ (b ≡ 10) → is_end b ≡ true
ends_at b ends = grind (arith, nat_tests)

goes_on : (b : ℕ) → IsPlain b → is_end b ≡ false
goes_on b plain = let other = plain.0 in let same_line = plain.1 in grind (arith, nat_tests)

-- ---- the word

pub word_of-append : (w r : List ℕ) → IsField w → EndsField r → word_of (w ++ r) ≡ w
unfolding word_of
word_of-append [] [] plain ends = refl
word_of-append [] (b ∷ r) plain ends = cond-true _ _ _ (ends_at b ends)
word_of-append (x ∷ w) r plain ends =
    cond-false _ _ _ (goes_on x (All-head IsPlain x w plain)) ∙ ap (λ (l : List ℕ). x ∷ l) (word_of-append w r (All-tail IsPlain x w plain) ends)

-- ---- the line

-- a line with these bytes in front of its word
abbrev pub behind : List ℕ → Line → Line
behind w line = record { word = w ++ line.word; fields = line.fields; after = line.after }

longer-behind : (x : ℕ) (w : List ℕ) (line : Option Line) → x ≢ 32 → option_map (longer x) (option_map (behind w) line) ≡ option_map (behind (x ∷ w)) line
longer-behind x w None other = refl
longer-behind x w (Some line) other = ap Some (cond-false _ _ _ (is_no x 32 other))

behind-nil : (line : Option Line) → line ≡ option_map (behind []) line
behind-nil None = refl
behind-nil (Some line) = refl

pub line_of-append : (w r : List ℕ) → IsField w → line_of (w ++ r) ≡ option_map (behind w) (line_of r)
unfolding line_of
line_of-append [] r plain = behind-nil (line_of r)
line_of-append (x ∷ w) r plain =
    let here = All-head IsPlain x w plain in
    cond-false _ _ _ (is_no x 10 here.1) ∙ ap (option_map (longer x)) (line_of-append w r (All-tail IsPlain x w plain)) ∙ longer-behind x w (line_of r) here.0

line_of-space : (r : List ℕ) → line_of (32 ∷ r) ≡ option_map (longer 32) (line_of r)
unfolding line_of
line_of-space r = refl

line_of-feed : (r : List ℕ) → line_of (10 ∷ r) ≡ Some (record { word = []; fields = []; after = r })
unfolding line_of
line_of-feed r = refl

line_of-nil : line_of [] ≡ None
unfolding line_of
line_of-nil = refl

-- ---- the first line of these bytes, by its word

module _ (rest word r : List ℕ) (whole : rest ≡ word ++ r) (plain : IsField word) (ends : EndsField r) where
  the_word : word_of rest ≡ word
  the_word = ap word_of whole ∙ word_of-append word r plain ends

  pub later_line : is_later word ≡ true → whole_line rest ≡ Err NotBuilt
  later_line later = cond-true _ _ _ (ap is_later the_word ∙ later)

  pub other_line : is_later word ≡ false → (line : Option Line) → line_of r ≡ line → whole_line rest ≡ ok_or (option_map (behind word) line) (Breaks Form)
  other_line other line is =
      cond-false _ _ _ (ap is_later the_word ∙ other) ∙ ap (λ (l : Option Line). ok_or l (Breaks Form)) (ap line_of whole ∙ line_of-append word r plain ∙ ap (option_map (behind word)) is)

-- no space comes after the word
pub no_field : (rest word r : List ℕ) → rest ≡ word ++ r → IsField word → EndsField r → is_later word ≡ false → ((more : List ℕ) → r ≢ 32 ∷ more) → HasNone (whole_line rest) (Breaks Form)
no_field rest word [] whole plain ends other none = inl (other_line rest word [] whole plain ends other None line_of-nil)
no_field rest word (b ∷ r) whole plain (inl space) other none = absurd (none r (ap (λ (x : ℕ). x ∷ r) space))
no_field rest word (b ∷ r) whole plain (inr feed) other none =
    let line : Line = record { word = []; fields = []; after = r } in
    let is : line_of (b ∷ r) ≡ Some line = ap (λ (x : ℕ). line_of (x ∷ r)) feed ∙ line_of-feed r in
    inr (refl, (behind word line, other_line rest word (b ∷ r) whole plain (inr feed) other (Some line) is, record { other = λ field same. cc }))

-- a space, a field and what comes after it
line_of-field : (r rest field end : List ℕ) → r ≡ 32 ∷ rest → rest ≡ field ++ end → IsField field → line_of r ≡ option_map (longer 32) (option_map (behind field) (line_of end))
line_of-field r rest field end space parts plain =
    ap line_of space ∙ line_of-space rest ∙ ap (option_map (longer 32)) (ap line_of parts ∙ line_of-append field end plain)

-- two fields or more
others : (word field : List ℕ) (line : Option Line) (first : Line) → option_map (behind word) (option_map (longer 32) (option_map (behind field) (option_map (longer 32) line))) ≡ Some first → HasOtherCount first
others word field None first is = absurd (cc)
others word field (Some line) first is = record { other = λ f same. let fields : (field ++ []) ∷ line.word ∷ line.fields ≡ first.fields = cc in cc }

-- no line feed comes after the one field
module _ (rest word r after_space field : List ℕ) (whole : rest ≡ word ++ r) (plain : IsField word) (ends : EndsField r) (other : is_later word ≡ false) (space : r ≡ 32 ∷ after_space) (plain_field : IsField field) where
  private_line : (end : List ℕ) → after_space ≡ field ++ end → (line : Option Line) → line_of end ≡ line
      → whole_line rest ≡ ok_or (option_map (behind word) (option_map (longer 32) (option_map (behind field) line))) (Breaks Form)
  private_line end parts line is =
      other_line rest word r whole plain ends other (option_map (longer 32) (option_map (behind field) line))
      (line_of-field r after_space field end space parts plain_field ∙ ap (λ (l : Option Line). option_map (longer 32) (option_map (behind field) l)) is)

  more_fields : (end : List ℕ) (line : Option Line) → after_space ≡ field ++ end → line_of end ≡ option_map (longer 32) line → HasNone (whole_line rest) (Breaks Form)
  more_fields end None parts is = inl (private_line end parts None is)
  more_fields end (Some line) parts is =
      let found : Line = behind word (longer 32 (behind field (longer 32 line))) in
      inr (refl, (found, private_line end parts (Some (longer 32 line)) is, others word field (Some line) found refl))

  pub no_feed : (end : List ℕ) → after_space ≡ field ++ end → EndsField end → ((more : List ℕ) → end ≢ 10 ∷ more) → HasNone (whole_line rest) (Breaks Form)
  no_feed [] parts ends none = inl (private_line [] parts None line_of-nil)
  no_feed (b ∷ more) parts (inl again) none = more_fields (b ∷ more) (line_of more) parts (ap (λ (x : ℕ). line_of (x ∷ more)) again ∙ line_of-space more)
  no_feed (b ∷ more) parts (inr feed) none = absurd (none more (ap (λ (x : ℕ). x ∷ more) feed))

  pub one_line : (end after : List ℕ) → after_space ≡ field ++ end → end ≡ 10 ∷ after → whole_line rest ≡ Ok (record { word = word; fields = field ∷ []; after = after })
  one_line end after parts feed =
      private_line end parts (Some (record { word = []; fields = []; after = after })) (ap line_of feed ∙ line_of-feed after)
      ∙ (λ i. Ok (record { word = append-nil word i; fields = append-nil field i ∷ []; after = after }))
