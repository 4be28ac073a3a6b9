-- What comes of adding a text to a vector of bytes: memory may be wanting.
use Rattle.std.specs.Prelude.{◌≡◌, ℕ, ◌+◌, ◌<◌, ◌≤◌, List, ◌++◌, length, drop, vec_items, vec_capacity, MatchResult, Result, Vec}
use Rattle.std.specs.declared.alloc.AllocError.{AllocError}
use Rattle.std.specs.declared.alloc.Global.{Global}

-- Memory is wanting only where the vector had less room than the bytes before and the text need, and then a front of the text was added.
pub record NoMemory (before after : Vec ℕ Global) (text : List ℕ) : Type 0 where
  pub full : vec_capacity before < length (vec_items before) + length text
  pub some : List ℕ
  pub others : List ℕ
  pub text_is : text ≡ some ++ others
  pub after_is : vec_items after ≡ vec_items before ++ some

-- the whole text was added behind the bytes before, or memory was wanting; the room does not shrink
pub record Adds {A : Type 0} (before after : Vec ℕ Global) (text : List ℕ) (r : Result A AllocError) : Type 0 where
  pub adds : MatchResult r (λ _. vec_items after ≡ vec_items before ++ text) (λ _. NoMemory before after text)
  pub capacity : vec_capacity before ≤ vec_capacity after

-- the bytes that were added
abbrev pub added : Vec ℕ Global → Vec ℕ Global → List ℕ
added before after = drop (length (vec_items before)) (vec_items after)
