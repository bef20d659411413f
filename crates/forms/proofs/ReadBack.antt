-- Letters of the alphabet are read back from their bytes, and what is read has the bytes of the text.
use mathlib.Core.Path.{◌≡◌, refl, sym, ap, subst, ◌∙◌}
use mathlib.Core.Bool.{Bool, true, false, ◌&&◌}
use mathlib.Core.List.{List, [], ◌∷◌, ◌++◌}
use Prim.Native.Nat.{ℕ, zero, suc, ◌+◌, ◌/◌, ◌%◌}
use lib.Dec.{T, ltb}
use lib.ListN.{length, drop}
use lib.Seq.{drop-nil}
use lib.Ieee.Fits.{and_i, and_l, and_r}
use Rattle.rules.specs.CodePoints.{Sign, point, utf8, bytes, alphabet}
use Rattle.rules.specs.Speller.{starts, Front, a_letter, letter_at, Reading, stuck_at, reading, and_then, more_bytes, go_on, read_from, read}
use Rattle.letters.specs.Alphabet.{in_alphabet}
use Rattle.letters.proofs.Fronts.{decodes_back}
use Rattle.letters.proofs.Agrees.{starts_is, Shown, absent, present, shown, agree}

front_is : (s : Sign) (rest : List ℕ) → T (in_alphabet s) → letter_at (utf8 (point s) ++ rest) ≡ a_letter s
front_is s rest t = sym (agree (utf8 (point s) ++ rest)) ∙ decodes_back s rest t

-- a code point has one to three bytes
pub data OneToThree : List ℕ → Type 0 where
  one : {a : ℕ} → OneToThree (a ∷ [])
  two : {a b : ℕ} → OneToThree (a ∷ b ∷ [])
  three : {a b c : ℕ} → OneToThree (a ∷ b ∷ c ∷ [])

pub one_to_three : (n : ℕ) → OneToThree (utf8 n)
one_to_three n = go (ltb n 0x80) (ltb n 0x800)
  where
    go : (p q : Bool) → OneToThree (elim p [ true ↦ n ∷ [] | false ↦ elim q [ true ↦ (0xC0 + n / 64) ∷ (0x80 + n % 64) ∷ [] | false ↦ (0xE0 + n / 4096) ∷ (0x80 + n / 64 % 64) ∷ (0x80 + n % 64) ∷ [] ] ])
    go true q = one
    go false true = two
    go false false = three

data Cons : List ℕ → Type 0 where
  cons : {c : ℕ} {cs : List ℕ} → Cons (c ∷ cs)

some_bytes : {u : List ℕ} → OneToThree u → Cons u
some_bytes one = cons
some_bytes two = cons
some_bytes three = cons

cons_utf8 : (n : ℕ) → Cons (utf8 n)
cons_utf8 n = some_bytes (one_to_three n)

record Skipped (n at : ℕ) (bs rest : List ℕ) : Type 0 where
  place : ℕ
  goes_on : read_from n at bs ≡ read_from 0 place rest

skipped : (cs : List ℕ) (at : ℕ) (rest : List ℕ) → Skipped (length cs) at (cs ++ rest) rest
skipped [] at rest = record { place = at; goes_on = refl }
skipped (c ∷ cs) at rest = let s = skipped cs (suc at) rest in record { place = s.place; goes_on = s.goes_on }

-- letters of the alphabet are read back
abbrev pub all_in_alphabet : List Sign → Bool
all_in_alphabet [] = true
all_in_alphabet (s ∷ ss) = in_alphabet s && all_in_alphabet ss

record OneRead (s : Sign) (at : ℕ) (bs rest : List ℕ) : Type 0 where
  place : ℕ
  one_read : read_from 0 at bs ≡ and_then s (read_from 0 place rest)

at_bytes : {u : List ℕ} (s : Sign) (at : ℕ) (rest : List ℕ) → Cons u → utf8 (point s) ≡ u → letter_at (u ++ rest) ≡ a_letter s → OneRead s at (u ++ rest) rest
at_bytes s at rest (cons {cs = cs}) e h =
    let k = skipped cs (suc at) rest in
    record {
      place = k.place;
      one_read = ap (go_on at (λ more. read_from more (suc at) (cs ++ rest))) h ∙ ap (and_then s) (ap (λ (u : List ℕ). read_from (more_bytes u) (suc at) (cs ++ rest)) e ∙ k.goes_on);
    }

from_bytes : (at : ℕ) (ss : List Sign) → T (all_in_alphabet ss) → read_from 0 at (bytes ss) ≡ reading ss
from_bytes at [] t = refl
from_bytes at (s ∷ ss) t =
    let k = at_bytes s at (bytes ss) (cons_utf8 (point s)) refl (front_is s (bytes ss) (and_l (in_alphabet s) (all_in_alphabet ss) t)) in
    k.one_read ∙ ap (and_then s) (from_bytes k.place ss (and_r (in_alphabet s) (all_in_alphabet ss) t))

pub reads_back : (ss : List Sign) → T (all_in_alphabet ss) → read (bytes ss) ≡ reading ss
unfolding read
reads_back ss t = from_bytes 0 ss t

-- what is read from the k-th byte on is of the alphabet, and its bytes stand there
data Reads (k : ℕ) (bs : List ℕ) : Reading → Type 0 where
  not_read : {n : ℕ} → Reads k bs (stuck_at n)
  is_read : {ss : List Sign} → bytes ss ≡ drop k bs → T (all_in_alphabet ss) → Reads k bs (reading ss)

reads_one : {b : ℕ} {bs : List ℕ} (s : Sign) {u : List ℕ} {r : Reading} → Cons u → utf8 (point s) ≡ u → T (starts u (b ∷ bs)) → T (in_alphabet s) →
    Reads (more_bytes (utf8 (point s))) bs r → Reads 0 (b ∷ bs) (and_then s r)
reads_one s c e t n not_read = not_read
reads_one {b} {bs} s (cons {c = c} {cs = cs}) e t n (is_read {ss = ss} h l) =
    is_read (ap (λ (u : List ℕ). u ++ bytes ss) e ∙ ap (λ (l : List ℕ). c ∷ cs ++ l) (h ∙ ap (λ (u : List ℕ). drop (more_bytes u) bs) e) ∙ starts_is (c ∷ cs) (b ∷ bs) t)
    (and_i (in_alphabet s) (all_in_alphabet ss) n l)

reads : (k at : ℕ) (bs : List ℕ) → Reads k bs (read_from k at bs)
reads k at [] = is_read (sym (drop-nil k)) tt
reads (suc k) at (b ∷ bs) = go (reads k (suc at) bs)
  where
    go : {r : Reading} → Reads k bs r → Reads (suc k) (b ∷ bs) r
    go not_read = not_read
    go (is_read h l) = is_read h l
reads zero at (b ∷ bs) = go (shown (b ∷ bs)) (λ n. reads n (suc at) bs)
  where
    go : {f : Front} → Shown alphabet (b ∷ bs) f → ((n : ℕ) → Reads n bs (read_from n (suc at) bs)) → Reads 0 (b ∷ bs) (go_on at (λ more. read_from more (suc at) bs) f)
    go (absent h) k = not_read
    go (present {s = s} n t) k = reads_one s (cons_utf8 (point s)) refl t n (k (more_bytes (utf8 (point s))))

pub record Read (bs : List ℕ) (ss : List Sign) : Type 0 where
  pub same_bytes_law : bytes ss ≡ bs
  pub known : T (all_in_alphabet ss)

of_reads : {bs : List ℕ} {ss : List Sign} → Reads 0 bs (reading ss) → Read bs ss
of_reads (is_read h l) = record { same_bytes_law = h; known = l }

pub was_read : (bs : List ℕ) (ss : List Sign) → read bs ≡ reading ss → Read bs ss
unfolding read
was_read bs ss e = of_reads (subst (Reads 0 bs) e (reads 0 0 bs))
