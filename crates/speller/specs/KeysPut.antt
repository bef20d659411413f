-- What is said of a function that puts keys behind those that a list holds, and how many it has room for.
use Rattle.std.specs.Prelude.{◌≡◌, List, ◌++◌, ℕ, ◌+◌, length, take}
use Rattle.speller.specs.declared.key_list.KeyList.{KeyList}

-- the keys that a list holds
abbrev pub held : KeyList → List ℕ
held l = take l.count l.keys

-- a list before and after these keys are put behind those that it holds
pub record Puts (before after : KeyList) (part : List ℕ) : Type 0 where
  pub moved : after.count ≡ before.count + length part
  pub front : held after ≡ held before ++ part

abbrev pub most_put : ℕ
most_put = 193
