-- A letter stored in the array is the letter of the word: at a place with another shape, or after the last.
use mathlib.Core.Path.{◌≡◌, refl, sym, ap, ap₂, ◌∙◌}
use mathlib.Core.List.{List, [], ◌∷◌, ◌++◌, map, append_assoc, map-append, head-eq_of_cons-eq, tail-eq_of_cons-eq}
use Prim.Native.Nat.{ℕ, zero, suc, ◌%◌, ◌≤◌, ◌<◌}
use native.Mathlib.Numerals.{add-one}
use native.Mathlib.Omega.{arith}
use lib.ListN.{length, take, drop, set, get_or, length-set, length-map, length-append, take-append-drop}
use lib.Seq.{set-append_left, set_split, length-take-le, get_or-take, take-set-lt}
use Rattle.rules.specs.Letters.{Letter, Letters}
use Rattle.rules.specs.TheWord.{letter, number, at_front}
use Rattle.rules.specs.KeyRoles.{shaped}
use Rattle.rules.proofs.StaysInRange.{read_front}
use Rattle.rules.specs.LettersOfAMode.{AllFine}
use Rattle.rules.proofs.Numbers.{of_number, letters_numbers}
use Rattle.step.specs.LentLetters.{Canonical, LettersInFront}
use Rattle.targets.specs.Aims.{reshape, shape_at}

-- the numbers with another shape at a place
abbrev pub reshaped_at : List ℕ → ℕ → ℕ → List ℕ
reshaped_at l i sh = set l i (number (shaped sh (letter (get_or l i 0))))

first_canonical : (n : ℕ) (ns : List ℕ) → Canonical (n ∷ ns) → number (letter n) ≡ n
first_canonical n ns c = head-eq_of_cons-eq c

rest_canonical : (n : ℕ) (ns : List ℕ) → Canonical (n ∷ ns) → Canonical ns
rest_canonical n ns c = tail-eq_of_cons-eq c

-- a letter of a list, with another shape, as its number; and read again
number_reshape : (ns : List ℕ) (i sh : ℕ) → Canonical ns → map number (reshape i sh (map letter ns)) ≡ set ns i (number (shaped sh (letter (get_or ns i 0))))
number_reshape [] i sh c = refl
number_reshape (n ∷ ns) zero sh c = ap (◌∷◌ (number (shaped sh (letter n)))) (rest_canonical n ns c)
number_reshape (n ∷ ns) (suc i) sh c = ap₂ ◌∷◌ (first_canonical n ns c) (number_reshape ns i sh (rest_canonical n ns c))

letter_reshape : (ns : List ℕ) (i sh v : ℕ) → letter v ≡ shaped sh (letter (get_or ns i 0)) → map letter (set ns i v) ≡ reshape i sh (map letter ns)
letter_reshape [] i sh v e = refl
letter_reshape (n ∷ ns) zero sh v e = ap (λ (x : Letter). x ∷ map letter ns) e
letter_reshape (n ∷ ns) (suc i) sh v e = ap (◌∷◌ (letter n)) (letter_reshape ns i sh v e)

pub length_reshape : (i sh : ℕ) (xs : Letters) → length (reshape i sh xs) ≡ length xs
length_reshape i sh [] = refl
length_reshape zero sh (x ∷ xs) = refl
length_reshape (suc i) sh (x ∷ xs) = ap suc (length_reshape i sh xs)

pub shape_at_law : (ns : List ℕ) (i : ℕ) → i < length ns → shape_at i (map letter ns) ≡ (letter (get_or ns i 0)).shape
shape_at_law [] i h = absurd (omega arith)
shape_at_law (n ∷ ns) zero h = refl
shape_at_law (n ∷ ns) (suc i) h = shape_at_law ns i (omega arith)

-- the number of a letter in another shape is read as that letter
reshaped_letter : (n sh : ℕ) → sh < 8 → letter (number (shaped sh (letter n))) ≡ shaped sh (letter n)
reshaped_letter n sh h = of_number (n % 256) sh (letter n).capital (omega arith) h

-- a letter with another shape, stored in an array that holds nothing else than letters
module _ (l : List ℕ) (c : Canonical l) (i sh : ℕ) where
  pub whole_stored : reshaped_at l i sh ≡ map number (reshape i sh (map letter l))
  whole_stored = sym (number_reshape l i sh c)

  pub whole_read : sh < 8 → map letter (reshaped_at l i sh) ≡ reshape i sh (map letter l)
  whole_read s = letter_reshape l i sh (number (shaped sh (letter (get_or l i 0)))) (reshaped_letter (get_or l i 0) sh s)

  pub whole_given : sh < 8 → Canonical (reshaped_at l i sh)
  whole_given s = ap (map number) (whole_read s) ∙ number_reshape l i sh c

-- and in the front of a longer one
module _ (l : List ℕ) (n : ℕ) (given : LettersInFront l n) where
  abbrev word : Letters
  word = map letter (take n l)

  pub within : n ≤ length l
  within = omega (arith, given.whole, given.fits)

  front : (ms : List ℕ) → length ms ≡ n → at_front ms l ≡ ms ++ drop n l
  front ms e = ap (λ (k : ℕ). ms ++ drop k l) e

  pub stored : (i sh : ℕ) → i < n → reshaped_at l i sh ≡ at_front (map number (reshape i sh word)) l
  stored i sh h =
      let v = number (shaped sh (letter (get_or l i 0))) in
      let len : length (take n l) ≡ n = length-take-le n l within in
      ap (λ (m : List ℕ). set m i v) (sym (take-append-drop n l)) ∙ set-append_left (take n l) (drop n l) i v (omega arith) ∙
      ap (λ (m : List ℕ). m ++ drop n l)
      (ap (λ (k : ℕ). set (take n l) i (number (shaped sh (letter k)))) (sym (get_or-take n l i 0 h)) ∙ sym (number_reshape (take n l) i sh given.canonical)) ∙
      sym (front (map number (reshape i sh word)) (length-map (reshape i sh word) number ∙ length_reshape i sh word ∙ length-map (take n l) letter ∙ len))

  pub read_stored : (i sh : ℕ) → i < n → sh < 8 → map letter (take n (reshaped_at l i sh)) ≡ reshape i sh word
  read_stored i sh h s =
      let v = number (shaped sh (letter (get_or l i 0))) in
      ap (map letter) (take-set-lt n l i v h) ∙ letter_reshape (take n l) i sh v (reshaped_letter (get_or l i 0) sh s ∙ ap (λ (k : ℕ). shaped sh (letter k)) (sym (get_or-take n l i 0 h)))

  pub still_given : (i sh : ℕ) → i < n → sh < 8 → LettersInFront (reshaped_at l i sh) n
  still_given i sh h s =
      record {
        whole = simp length-set given.whole;
        fits = given.fits;
        canonical =
            ap (map number) (read_stored i sh h s) ∙ number_reshape (take n l) i sh given.canonical ∙
            ap (λ (k : ℕ). set (take n l) i (number (shaped sh (letter k)))) (get_or-take n l i 0 h) ∙ sym (take-set-lt n l i _ h);
      }

  pub added : (x : Letter) → n < length l → set l n (number x) ≡ at_front (map number (word ++ (x ∷ []))) l
  added x h =
      let len : length (take n l) ≡ n = length-take-le n l within in
      let e : map number (word ++ (x ∷ [])) ≡ take n l ++ (number x ∷ []) = map-append number word (x ∷ []) ∙ ap (λ (m : List ℕ). m ++ (number x ∷ [])) given.canonical in
      let k : length (take n l ++ (number x ∷ [])) ≡ suc n = simp (length-append, add-one) (ap suc len) in
      set_split l n (number x) h ∙ sym (append_assoc (take n l) (number x ∷ []) (drop (suc n) l)) ∙
      sym (ap (λ (m : List ℕ). at_front m l) e ∙ ap (λ (j : ℕ). (take n l ++ (number x ∷ [])) ++ drop j l) k)

-- letters at the front of an array are read again
front_numbers : (l : List ℕ) (n : ℕ) (ws : Letters) → length ws ≡ n → take n (at_front (map number ws) l) ≡ map number ws
front_numbers l n ws e = read_front (map number ws) l n (length-map ws number ∙ e)

pub front_letters : {mode : ℕ} (l : List ℕ) (n : ℕ) (ws : Letters) → AllFine mode ws → length ws ≡ n → map letter (take n (at_front (map number ws) l)) ≡ ws
front_letters l n ws f e = ap (map letter) (front_numbers l n ws e) ∙ letters_numbers f

pub front_canonical : {mode : ℕ} (l : List ℕ) (n : ℕ) (ws : Letters) → AllFine mode ws → length ws ≡ n → Canonical (take n (at_front (map number ws) l))
front_canonical l n ws f e = ap (map number) (front_letters l n ws f e) ∙ sym (front_numbers l n ws e)
