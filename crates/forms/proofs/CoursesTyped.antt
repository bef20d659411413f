-- What the test of a course says of typing it.
use mathlib.Core.Path.{◌≡◌, refl, sym, ap, ◌∙◌}
use mathlib.Core.Bool.{Bool, false, ◌&&◌}
use mathlib.Core.List.{List, [], ◌∷◌, ◌++◌, map, append_assoc, append-nil}
use Prim.Native.Nat.{ℕ}
use native.Mathlib.Omega.{arith}
use lib.Dec.{T}
use lib.Ieee.Fits.{and_i, and_l, and_r}
use Rattle.rules.specs.Letters.{Letter, Letters, plain, no_tone, same}
use Rattle.rules.specs.TheWord.{State, state_of, outcome_of, is_appended}
use Rattle.rules.specs.KeyRoles.{is_key, is_small, role, letter_of_key, append, with_letters, shaped, Edit, nothing, off, change, role_does}
use Rattle.rules.specs.Speller.{key_of_letter}
use Rattle.rules.specs.Refusals.{all}
use Rattle.rules.specs.declared.Role.{Role}
use Rattle.rules.specs.declared.Role.TheVariants.{ToneRole, ShapeRole, StrokeRole, NoRole}
use Rattle.rules.specs.declared.Touched.{Touched}
use Rattle.rules.specs.declared.Act.{Act}
use Rattle.rules.proofs.Appends.{leaves_appended}
use Rattle.rules.proofs.Commute.{Acts, by_shape, by_stroke, acted_if}
use Rattle.forms.specs.Forms.{capitals}
use Rattle.rules.specs.Syllables.{open_word, bare_keys}
use Rattle.forms.proofs.KeyCourses.{Item, letter, mark, item_keys, role_of, edit_by, walk, types_to}
use Rattle.rules.proofs.Bools.{and_if}
use Rattle.forms.proofs.Presses.{press, pressing, letter_of_key_law, letter_allowed}
use Rattle.forms.proofs.Capitals.{capitals_appended, same_capitals, left}

-- a key of which it is computed that it changes letters
pub acts_edit : (r : Role) (s : State) {a : Act} {g : Touched} {u : Letters} → edit_by r s.letters ≡ change a g u → Acts r s a g (with_letters s u)
acts_edit (ToneRole t) s h = let z : ◌≡◌ {A = ℕ} 0 1 = cc in absurd (omega arith)
acts_edit (ShapeRole e) s h = by_shape h
acts_edit StrokeRole s h = by_stroke h
acts_edit NoRole s h = let z : ◌≡◌ {A = ℕ} 0 1 = cc in absurd (omega arith)

pub record Changed (e : Edit) (f : Letters → Bool) : Type 0 where
  pub act : Act
  pub touches : Touched
  pub to : Letters
  pub is_so : e ≡ change act touches to
  pub passes : T (f to)

pub changed : (e : Edit) (f : Letters → Bool) → T (elim e [ nothing ↦ false | off g v ↦ false | change a g v ↦ f v ]) → Changed e f
changed (change a g v) f t = record { act = a; touches = g; to = v; is_so = refl; passes = t }
changed nothing f t = elim t [ ]
changed (off _ _) f t = elim t [ ]

-- the capitals among the letters of a course
abbrev pub item_capitals : List Item → List Bool
item_capitals [] = []
item_capitals (letter x ∷ xs) = x.capital ∷ item_capitals xs
item_capitals (mark k ∷ xs) = item_capitals xs

record Walked (mode : ℕ) (f : Letters → Bool) (w : Letters) (xs : List Item) : Type 0 where
  to : Letters
  pressed : pressing mode (open_word w no_tone) (item_keys xs) ≡ open_word to no_tone
  caps : capitals to ≡ capitals w ++ item_capitals xs
  passes : T (f to)

walked : (mode : ℕ) (f : Letters → Bool) (w : Letters) (xs : List Item) → T (walk mode f w xs) → Walked mode f w xs
walked mode f w [] t = record { to = w; pressed = refl; caps = sym (append-nil (capitals w)); passes = t }
walked mode f w (letter x ∷ xs) t =
    let z = shaped plain x in
    let d = is_appended (outcome_of (role_does (role_of mode x.base) (open_word w no_tone) z)) in
    let v = (append (open_word w no_tone) z).letters in
    let (c, t') = and_if (is_small x.base && d) (walk mode f v xs) t in
    let more = walked mode f v xs t' in
    let p : press mode (open_word w no_tone) (key_of_letter x) ≡ open_word v no_tone =
    ap (λ (y : Letter). state_of (role_does (role_of mode y.base) (open_word w no_tone) y)) (letter_of_key_law x (and_l (is_small x.base) d c)) ∙
    leaves_appended (role_of mode x.base) (open_word w no_tone) z (and_r (is_small x.base) d c) in
    record {
      to = more.to;
      pressed = ap (λ (s : State). pressing mode s (item_keys xs)) p ∙ more.pressed;
      caps = more.caps ∙ ap (λ (l : List Bool). l ++ item_capitals xs) (capitals_appended (open_word w no_tone) z) ∙ append_assoc (capitals w) (x.capital ∷ []) (item_capitals xs);
      passes = more.passes;
    }
walked mode f w (mark k ∷ xs) t =
    let c = changed (edit_by (role mode k) w) (λ v. walk mode f v xs) t in
    let q = acts_edit (role mode k) (open_word w no_tone) c.is_so in
    let more = walked mode f c.to xs c.passes in
    record {
      to = more.to;
      pressed = ap (λ (s : State). pressing mode s (item_keys xs)) (ap state_of (acted_if (letter_of_key k) q)) ∙ more.pressed;
      caps = more.caps ∙ ap (λ (l : List Bool). l ++ item_capitals xs) (sym (left q).caps);
      passes = more.passes;
    }

pub types_to_law : (mode : ℕ) (xs : List Item) (v : Letters) → T (types_to mode xs v) → item_capitals xs ≡ capitals v → pressing mode (open_word [] no_tone) (item_keys xs) ≡ open_word v no_tone
types_to_law mode xs v t e =
    let w = walked mode (λ u. same u v) [] xs t in
    w.pressed ∙ ap (λ (u : Letters). open_word u no_tone) (same_capitals w.to v w.passes (w.caps ∙ e))

-- the keys of letters that are typed so are allowed
pub bare_allowed : (mode : ℕ) (f : Letters → Bool) (v w : Letters) → T (walk mode f v (map letter w)) → T (all (is_key mode) (bare_keys w))
bare_allowed mode f v [] t = tt
bare_allowed mode f v (x ∷ w) t =
    let z = shaped plain x in
    let d = is_appended (outcome_of (role_does (role_of mode x.base) (open_word v no_tone) z)) in
    let u = (append (open_word v no_tone) z).letters in
    let (c, t') = and_if (is_small x.base && d) (walk mode f u (map letter w)) t in
    and_i (is_key mode (key_of_letter x)) (all (is_key mode) (bare_keys w)) (letter_allowed mode x (and_l (is_small x.base) d c)) (bare_allowed mode f u w t')
