-- `replay::Found::add_word` meets its contract: what is counted and put is the word that its keys make.
use mathlib.Core.Path.{◌≡◌, sym, ap, subst, ◌∙◌}
use mathlib.Core.Bool.{false}
use mathlib.Core.List.{List}
use Prim.Native.Nat.{ℕ, ◌≤◌}
use native.Mathlib.Omega.{arith}
use lib.Dec.{T}
use lib.ListN.{length, take, replicate}
use Rattle.rules.specs.TheWord.{Typed, word_of, at_front}
use Rattle.rules.specs.KeyRoles.{is_key}
use Rattle.rules.specs.Refusals.{all, is_mode, out_of_range}
use Rattle.rules.specs.WhatComesBack.{typed, type_all}
use Rattle.rules.specs.declared.TypeAll.{TypeAll}
use Rattle.rules.proofs.StaysInRange.{read_front}
use Rattle.replay.specs.Replays.{committed_line, done_of}
use Rattle.replay.specs.Passes.{Fits, with_done, line_at}
use Rattle.replay.specs.declared.WordDone.{WordDone}
use Rattle.replay.proofs.Words.{word_in_range, is_typed, fits_word}
use Rattle.replay.proofs.Found.add_word.Goals as goal

-- the word that allowed keys make, what is counted of it, and its line as it is then
module _ (m : ℕ) (ks : List ℕ) (mode : T (is_mode m)) (few : length ks ≤ 32) (allowed : T (all (is_key m) ks)) (all_typed : TypeAll) (e : all_typed ≡ type_all m ks) where
  in_range : out_of_range all_typed.word ≡ false
  in_range = ap (λ (x : TypeAll). out_of_range x.word) e ∙ word_in_range m ks mode few allowed

  its_word : word_of all_typed.word ≡ typed m ks
  its_word = ap (λ (x : TypeAll). word_of x.word) e ∙ is_typed m ks mode few allowed

  module _ (word : WordDone) (f : word ≡ done_of (word_of all_typed.word)) where
    done : word ≡ done_of (typed m ks)
    done = f ∙ ap done_of its_word

    its_line : (line : List ℕ) → line ≡ at_front (committed_line (word_of all_typed.word)) (replicate 97 0) → take (word.bytes) line ≡ committed_line (typed m ks)
    its_line line g =
        let long : length (committed_line (typed m ks)) ≡ word.bytes = omega (arith, ap (λ (d : WordDone). d.bytes) done) in
        ap (take (word.bytes)) (g ∙ ap (λ (y : Typed). at_front (committed_line y) (replicate 97 0)) its_word) ∙ read_front (committed_line (typed m ks)) (replicate 97 0) (word.bytes) long

pub line_of-word-requires : goal.line_of-word-requires
line_of-word-requires c = in_range c.args.mode c.args.keys.now c.requires.0 c.requires.1 c.requires.2 _ c.type_all-all.ensures

pub add-requires : goal.add-requires
add-requires c =
    let d = done c.args.mode c.args.keys.now c.requires.0 c.requires.1 c.requires.2 _ c.type_all-all.ensures _ c.line_of-word.ensures.0 in
    subst (λ (d : WordDone). Fits c.args.self.now d.bytes d.acted d.undone d.appended) (sym d) (fits_word c.args.mode c.args.keys.now c.requires.0 c.requires.1 c.requires.2 c.args.self.now c.requires.3)

pub returns : goal.returns
returns c =
    let d = done c.args.mode c.args.keys.now c.requires.0 c.requires.1 c.requires.2 _ c.type_all-all.ensures _ c.line_of-word.ensures.0 in
    let l = its_line c.args.mode c.args.keys.now c.requires.0 c.requires.1 c.requires.2 _ c.type_all-all.ensures _ c.line_of-word.ensures.0 _ c.line_of-word.ensures.1 in
    (c.add.ensures ∙ ap (with_done c.args.self.now) d, c.put_line.ensures ∙ ap (λ (l : List ℕ). line_at c.args.self.now.written l c.args.out.now) l)
