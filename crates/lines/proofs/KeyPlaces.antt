-- The places of the keys: the column of the letters is what the loop over them writes and the last letter behind it, and how long the two columns can be.
use mathlib.Core.Path.{◌≡◌, refl, sym, ap, ap₂, ◌∙◌}
use mathlib.Core.List.{List, [], ◌∷◌, ◌++◌, append_assoc, append-nil}
use Prim.Native.Nat.{ℕ, ◌+◌, ◌*◌, ◌≤◌, ◌<◌}
use Prim.Native.Char.{code}
use native.Mathlib.Omega.{arith}
use lib.Dec.{lit≤, lit<}
use lib.ListN.{length, take, length-append, length-take}
use Rattle.rules.specs.TheWord.{Typed}
use Rattle.rules.specs.Drill.{newline, or_hyphen, joined, columns, place_or_hyphen, letter_place, each_letter, letter_places, word_columns, key_columns, word_line_with_keys}
use Rattle.lines.specs.Appending.{Appends, held, ended_by}
use Rattle.lines.specs.declared.line.Line.{Line}
use Rattle.lines.proofs.Columns.{key_long, no_hyphen, hyphen_long, in_two, in_both}

pub letter_long : (p q end : ℕ) → length (letter_place p q ++ (end ∷ [])) ≤ 6
letter_long p q end =
    let a = place_or_hyphen p in
    let b = place_or_hyphen q in
    omega (arith, ap length (in_two a b (code "/") end), length-append (a ++ (code "/" ∷ [])) (b ++ (end ∷ [])), key_long p (code "/"), key_long q end)

-- letters with a comma behind each
abbrev pub commas : List ℕ → List ℕ → List ℕ
commas [] qs = []
commas (p ∷ ps) [] = []
commas (p ∷ ps) (q ∷ qs) = (letter_place p q ++ (code "," ∷ [])) ++ commas ps qs

all_commas_long : (ps qs : List ℕ) → length (commas ps qs) ≤ 6 * length ps
all_commas_long [] qs = lit≤ tt
all_commas_long (p ∷ ps) [] = omega arith
all_commas_long (p ∷ ps) (q ∷ qs) = omega (arith, length-append (letter_place p q ++ (code "," ∷ [])) (commas ps qs), letter_long p q (code ","), all_commas_long ps qs)

pub commas_long : (i : ℕ) (ps qs : List ℕ) → length (commas (take i ps) (take i qs)) ≤ 6 * i
commas_long i ps qs = omega (arith, all_commas_long (take i ps) (take i qs), length-take i ps)

-- a line while letters are written: behind what it holds, those that are left make the same as all behind what it held before
pub record Left (before now : Line) (ps qs left_ps left_qs : List ℕ) : Type 0 where
  pub abreast : length left_qs ≡ length left_ps
  pub moved : now.at + length (commas left_ps left_qs) ≡ before.at + length (commas ps qs)
  pub front : held now ++ commas left_ps left_qs ≡ held before ++ commas ps qs

pub one_put : {before now next : Line} {ps qs left_ps left_qs more_ps more_qs : List ℕ} {p q : ℕ} → left_ps ≡ p ∷ more_ps → left_qs ≡ q ∷ more_qs
    → Left before now ps qs left_ps left_qs → Appends now next (letter_place p q ++ (code "," ∷ [])) → Left before next ps qs more_ps more_qs
one_put {now = now} {more_ps = more_ps} {more_qs} {p} {q} e f left more =
    let here = letter_place p q ++ (code "," ∷ []) in
    let split = ap₂ commas e f in
    record {
      abreast = omega (arith, left.abreast, ap length e, ap length f);
      moved = omega (arith, left.moved, more.moved, ap length split, length-append here (commas more_ps more_qs));
      front =
          ap (λ (l : List ℕ). l ++ commas more_ps more_qs) more.front ∙ append_assoc (held now) here (commas more_ps more_qs) ∙
          ap (λ (l : List ℕ). held now ++ l) (sym split) ∙ left.front;
    }

pub few_put : {before now : Line} {ps qs left_ps left_qs : List ℕ} → Left before now ps qs left_ps left_qs → now.at ≤ before.at + 6 * length ps
few_put {ps = ps} {qs} left = omega (arith, left.moved, all_commas_long ps qs)

no_commas : (ps qs : List ℕ) → length ps ≡ 0 → commas ps qs ≡ []
no_commas [] qs h = refl
no_commas (p ∷ ps) qs h = absurd (omega arith)

pub all_put : {before now : Line} {ps qs left_ps left_qs : List ℕ} → length left_ps ≡ 0 → Left before now ps qs left_ps left_qs → Appends before now (commas ps qs)
all_put {now = now} {left_ps = left_ps} {left_qs} h left =
    let none = no_commas left_ps left_qs h in
    record { moved = omega (arith, left.moved, ap length none); front = sym (append-nil (held now)) ∙ ap (λ (l : List ℕ). held now ++ l) (sym none) ∙ left.front }

-- the last letter behind them
last_one : (ps qs : List ℕ) (p q end : ℕ) → length qs ≡ length ps → commas ps qs ++ (letter_place p q ++ (end ∷ [])) ≡ letter_places (ps ++ (p ∷ [])) (qs ++ (q ∷ [])) ++ (end ∷ [])
last_one [] [] p q end h = refl
last_one [] (b ∷ qs) p q end h = absurd (omega arith)
last_one (a ∷ ps) [] p q end h = absurd (omega arith)
last_one (a ∷ ps) (b ∷ qs) p q end h = go ps qs (last_one ps qs p q end (omega arith)) (omega arith)
  where
    here : List ℕ
    here = letter_place a b

    go : (ps qs : List ℕ) → commas ps qs ++ (letter_place p q ++ (end ∷ [])) ≡ letter_places (ps ++ (p ∷ [])) (qs ++ (q ∷ [])) ++ (end ∷ []) → length qs ≡ length ps
        → commas (a ∷ ps) (b ∷ qs) ++ (letter_place p q ++ (end ∷ [])) ≡ letter_places ((a ∷ ps) ++ (p ∷ [])) ((b ∷ qs) ++ (q ∷ [])) ++ (end ∷ [])
    go [] [] e h = ap (λ (l : List ℕ). l ++ (letter_place p q ++ (end ∷ []))) (append-nil (here ++ (code "," ∷ []))) ∙ append_assoc here (code "," ∷ []) (letter_place p q ++ (end ∷ [])) ∙ sym (append_assoc here (code "," ∷ letter_place p q) (end ∷ []))
    go [] (d ∷ qs) e h = absurd (omega arith)
    go (c ∷ ps) [] e h = absurd (omega arith)
    go (c ∷ ps) (d ∷ qs) e h =
        let rest = commas (c ∷ ps) (d ∷ qs) in
        let last = letter_place p q ++ (end ∷ []) in
        let f : ((here ++ (code "," ∷ [])) ++ rest) ++ last ≡ here ++ (code "," ∷ (rest ++ last)) = simp append_assoc in
        f ∙ ap (λ (l : List ℕ). here ++ (code "," ∷ l)) e ∙ sym (append_assoc here (code "," ∷ letter_places ((c ∷ ps) ++ (p ∷ [])) ((d ∷ qs) ++ (q ∷ []))) (end ∷ []))

-- a word with letters has no hyphen
some_text : (c : List ℕ) (cs : List (List ℕ)) → length c ≤ length (joined (code ",") (c ∷ cs))
some_text c [] = omega arith
some_text c (d ∷ ds) = omega (arith, length-append c (code "," ∷ joined (code ",") (d ∷ ds)))

not_empty : (ps qs : List ℕ) → 0 < length ps → 0 < length qs → 0 < length (letter_places ps qs)
not_empty [] qs h k = absurd (omega arith)
not_empty (p ∷ ps) [] h k = absurd (omega arith)
not_empty (p ∷ ps) (q ∷ qs) h k = omega (arith, some_text (letter_place p q) (each_letter ps qs), length-append (place_or_hyphen p) (code "/" ∷ place_or_hyphen q))

pub all_letters : (ps qs : List ℕ) (p q end : ℕ) → length qs ≡ length ps
    → commas ps qs ++ (letter_place p q ++ (end ∷ [])) ≡ or_hyphen (letter_places (ps ++ (p ∷ [])) (qs ++ (q ∷ []))) ++ (end ∷ [])
all_letters ps qs p q end h =
    last_one ps qs p q end h ∙
    no_hyphen (letter_places (ps ++ (p ∷ [])) (qs ++ (q ∷ []))) end
    (λ z. let some = not_empty (ps ++ (p ∷ [])) (qs ++ (q ∷ [])) (simp length-append (omega arith)) (simp length-append (omega arith)) in absurd (omega arith))

-- how long the two columns can be
letters_long : (ps qs : List ℕ) → length (letter_places ps qs) ≤ 6 * length ps
letters_long [] qs = lit≤ tt
letters_long (p ∷ ps) [] = omega arith
letters_long (p ∷ []) (q ∷ qs) = omega (arith, letter_long p q 0, length-append (letter_place p q) (0 ∷ []))
letters_long (p ∷ a ∷ ps) (q ∷ []) = omega (arith, letter_long p q 0, length-append (letter_place p q) (0 ∷ []))
letters_long (p ∷ a ∷ ps) (q ∷ b ∷ qs) =
    omega (arith, letter_long p q 0, length-append (letter_place p q) (0 ∷ []), length-append (letter_place p q) (code "," ∷ letter_places (a ∷ ps) (b ∷ qs)), letters_long (a ∷ ps) (b ∷ qs))

pub letters_column_long : (ps qs : List ℕ) (end : ℕ) → length (or_hyphen (letter_places ps qs) ++ (end ∷ [])) ≤ 6 * length ps + 2
letters_column_long ps qs end = omega (arith, hyphen_long (letter_places ps qs) end, letters_long ps qs)

-- the columns behind the six
pub with_keys : (z : Typed) → word_line_with_keys z ≡ ended_by (code " ") (word_columns z) ++ columns (key_columns z)
with_keys z = sym (in_both (word_columns z) (key_columns z) (lit< tt) (lit< tt))

pub key_columns_long : (z : Typed) (k : ℕ) → length z.places.appended_by ≤ k → length (columns (key_columns z)) ≤ 6 * k + 5
key_columns_long z k few =
    let letters = or_hyphen (letter_places z.places.appended_by z.places.shaped_by) in
    let toned = place_or_hyphen z.places.toned_by in
    omega (arith, few, ap length (in_two letters toned (code " ") newline), length-append (letters ++ (code " " ∷ [])) (toned ++ (newline ∷ [])), letters_column_long z.places.appended_by z.places.shaped_by (code " "), key_long z.places.toned_by newline)
