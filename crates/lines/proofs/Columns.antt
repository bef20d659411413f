-- Columns written one behind the other: one column, two writings after each other, and how long a column can be.
use Rattle.std.specs.Prelude.{Option, Some, None}
use mathlib.Core.Path.{◌≡◌, refl, sym, ap, subst, ◌∙◌}
use mathlib.Core.Bool.{Bool, true, false}
use mathlib.Core.List.{List, [], ◌∷◌, ◌++◌, append_assoc}
use Prim.Native.Nat.{ℕ, ◌+◌, ◌/◌, ◌%◌, ◌≤◌, ◌<◌}
use Prim.Native.Char.{code}
use native.Mathlib.Numerals.{add-one}
use native.Mathlib.Omega.{arith}
use lib.Dec.{eqb, ltb, lit≤}
use lib.ListN.{length, take, drop, set, length-append, length-take, length-drop, length-set}
use lib.Seq.{take_at, take-suc-set, length-take-le}
use Rattle.rules.specs.Decision.{handed_back}
use Rattle.rules.specs.Drill.{newline, decimal, or_hyphen, place_column, joined, columns, place_or_hyphen}
use Rattle.rules.specs.declared.Decision.{Decision}
use Rattle.rules.specs.declared.Decision.TheVariants.{Keep, Restore}
use Rattle.lines.specs.Appending.{Appends, held, ended_by}
use Rattle.lines.specs.declared.line.Line.{Line}

-- a part copied into a line behind what it holds, and a byte behind it
module _ (before : Line) (part : List ℕ) (end : ℕ) (room : before.at + length part < length before.text) where
  abbrev copied : List ℕ
  copied = take before.at before.text ++ (part ++ drop (length part) (drop before.at before.text))

  as_long : length copied ≡ length before.text
  as_long = simp (length-append, length-take, length-drop) (omega arith)

  in_front : take (before.at + length part) copied ≡ held before ++ part
  in_front =
      let rest = drop (length part) (drop before.at before.text) in
      let e : copied ≡ (held before ++ part) ++ rest = simp append_assoc in
      ap (take (before.at + length part)) e ∙
      take_at (held before ++ part) rest (before.at + length part) (length-append (held before) part ∙ ap (λ (n : ℕ). n + length part) (length-take-le before.at before.text (omega arith)))

  abbrev put : List ℕ
  put = set copied (before.at + length part) end

  put_front : take (before.at + length part + 1) put ≡ held before ++ (part ++ (end ∷ []))
  put_front =
      rw add-one (take-suc-set copied (before.at + length part) end (omega (arith, as_long)) ∙ ap (λ (l : List ℕ). l ++ (end ∷ [])) in_front ∙ append_assoc (held before) part (end ∷ []))

  -- it lies within the line's array, which is as long as before
  pub column_put : {after : Line} (dst : List ℕ) (k : ℕ) → dst ≡ part → k ≡ length part → after.at ≡ before.at + length part + 1
      → after.text ≡ set (take before.at before.text ++ (dst ++ drop k (drop before.at before.text))) (before.at + length part) end
      → (after.at ≤ length after.text) × (length after.text ≡ length before.text) × Appends before after (part ++ (end ∷ []))
  column_put {after} dst k d e a t =
      let new : after.text ≡ put = t ∙ (λ i. set (take before.at before.text ++ (d i ++ drop (e i) (drop before.at before.text))) (before.at + length part) end) in
      let long : length after.text ≡ length before.text = ap (λ (l : List ℕ). length l) new ∙ length-set copied (before.at + length part) end ∙ as_long in (
        omega (arith, long, a, room),
        long,
        record { moved = a ∙ simp length-append (omega arith); front = (λ i. take (a i) (new i)) ∙ put_front },
      )

-- the same bytes, said otherwise
pub as_part : {before after : Line} {p q : List ℕ} → p ≡ q → Appends before after p → Appends before after q
as_part {before} {after} e a = subst (Appends before after) e a

-- two writings, the second behind the first
pub and_then_law : {before mid after : Line} {p q : List ℕ} → Appends before mid p → Appends mid after q → Appends before after (p ++ q)
and_then_law {before} {p = p} {q = q} a b =
    record { moved = simp length-append (omega (arith, a.moved, b.moved)); front = b.front ∙ ap (λ (l : List ℕ). l ++ q) a.front ∙ append_assoc (held before) p q }

-- from the start of a line on, it does not matter what else is in its array
pub from_start : {before was after : Line} {p : List ℕ} → before.at ≡ 0 → was.at ≡ 0 → Appends before after p → Appends was after p
from_start {before} {was} {after} {p} b w a =
    let before_empty : held before ≡ [] = ap (λ (n : ℕ). take n before.text) b in
    let was_empty : held was ≡ [] = ap (λ (n : ℕ). take n was.text) w in
    record { moved = omega (arith, a.moved); front = a.front ∙ ap (λ (l : List ℕ). l ++ p) (before_empty ∙ sym was_empty) }

-- what is held behind a start
pub whole_line : {before after : Line} {p : List ℕ} → before.at ≡ 0 → Appends before after p → held after ≡ p
whole_line {before} {p = p} b a = a.front ∙ ap (λ (n : ℕ). take n before.text ++ p) b

-- a line whose array was filled from the start on
pub keys_put : {before after : Line} {p : List ℕ} {n : ℕ} (text : List ℕ) (b : ℕ) → before.at ≡ 0 → take n text ++ (b ∷ []) ≡ p → n ≤ length text → after.at ≡ n + 1 → held after ≡ take n text ++ (b ∷ []) → Appends before after p
keys_put {before} {after} {p} {n} text b z e h m f =
    let empty : held before ≡ [] = ap (λ (k : ℕ). take k before.text) z in
    let long : length p ≡ n + 1 = sym (ap length e) ∙ length-append (take n text) (b ∷ []) ∙ ap (λ (k : ℕ). k + 1) (length-take-le n text h) in
    record { moved = omega (arith, m, long, z); front = f ∙ e ∙ sym (ap (λ (l : List ℕ). l ++ p) empty) }

-- what a column holds
module _ (n end : ℕ) where
  abbrev digits_if : Bool → List ℕ
  digits_if b = elim b as (λ x. List ℕ) [ true ↦ (code "0" + n) ∷ [] | false ↦ (code "0" + n / 10) ∷ (code "0" + n % 10) ∷ [] ] ++ (end ∷ [])

  pub decimal_long : length (decimal n ++ (end ∷ [])) ≤ 3
  decimal_long = go (ltb n 10)
    where
      go : (b : Bool) → length (digits_if b) ≤ 3
      go true = lit≤ tt
      go false = lit≤ tt

  -- a key's place; 255 stands for no key
  abbrev place_if : Bool → List ℕ
  place_if b = elim b as (λ x. List ℕ) [ true ↦ code "-" ∷ [] | false ↦ decimal n ] ++ (end ∷ [])

  pub key_long : length (place_or_hyphen n ++ (end ∷ [])) ≤ 3
  key_long = go (eqb n 255)
    where
      go : (b : Bool) → length (place_if b) ≤ 3
      go true = lit≤ tt
      go false = decimal_long

pub no_hyphen : (part : List ℕ) (end : ℕ) → (length part ≡ 0 → ⊥) → part ++ (end ∷ []) ≡ or_hyphen part ++ (end ∷ [])
no_hyphen [] end h = absurd (h refl)
no_hyphen (b ∷ bs) end h = refl

-- how long it can be
pub hyphen_long : (part : List ℕ) (end : ℕ) → length (or_hyphen part ++ (end ∷ [])) ≤ length part + 2
hyphen_long [] end = lit≤ tt
hyphen_long (b ∷ bs) end = simp length-append (omega arith)

pub place_long : (p : Option ℕ) (end : ℕ) → length (place_column p ++ (end ∷ [])) ≤ 3
place_long (Some n) end = decimal_long n end
place_long None end = lit≤ tt

pub handed_long : (d : Decision) (shown keys : List ℕ) (end : ℕ) {n : ℕ} → length shown ≤ n → length keys ≤ n → length (or_hyphen (handed_back d shown keys) ++ (end ∷ [])) ≤ n + 2
handed_long Keep shown keys end s k = omega (arith, hyphen_long shown end)
handed_long Restore shown keys end s k = omega (arith, hyphen_long keys end)

-- the columns of a line, one behind the other
pub in_six : (a b c d e f : List ℕ) (end : ℕ)
    → (a ++ (code " " ∷ [])) ++ ((b ++ (code " " ∷ [])) ++ ((c ++ (code " " ∷ [])) ++ ((d ++ (code " " ∷ [])) ++ ((e ++ (code " " ∷ [])) ++ (f ++ (end ∷ [])))))) ≡ ended_by end (a ∷ b ∷ c ∷ d ∷ e ∷ f ∷ [])
in_six a b c d e f end = simp append_assoc

pub in_two : (a b : List ℕ) (between end : ℕ) → (a ++ (between ∷ [])) ++ (b ++ (end ∷ [])) ≡ joined between (a ∷ b ∷ []) ++ (end ∷ [])
in_two a b between end = simp append_assoc

-- two lists of columns, none empty
pub in_both : (cs ds : List (List ℕ)) → 0 < length cs → 0 < length ds → ended_by (code " ") cs ++ columns ds ≡ columns (cs ++ ds)
in_both [] ds h k = absurd (omega arith)
in_both (c ∷ cs) [] h k = absurd (omega arith)
in_both (c ∷ []) (d ∷ ds) h k = simp append_assoc
in_both (c ∷ b ∷ bs) (d ∷ ds) h k =
    let e : ended_by (code " ") (c ∷ b ∷ bs) ++ columns (d ∷ ds) ≡ c ++ (code " " ∷ (ended_by (code " ") (b ∷ bs) ++ columns (d ∷ ds))) = simp append_assoc in
    e ∙ ap (λ (l : List ℕ). c ++ (code " " ∷ l)) (in_both (b ∷ bs) (d ∷ ds) (omega arith) k) ∙ sym (append_assoc c (code " " ∷ joined (code " ") ((b ∷ bs) ++ (d ∷ ds))) (newline ∷ []))
