-- Texts added one behind the other.
use Rattle.std.proofs.Common.{◌≡◌, ℕ, ◌+◌, ◌<◌, ◌≤◌, List, ◌++◌, length, OnOk, vec_items, vec_capacity, Ok, Err, Result, Vec, sym, ap, ◌∙◌, append_assoc, le_trans, arith, length-append}
use Rattle.std.proofs.lemmas.List.{drop_at}
use Rattle.std.specs.declared.alloc.AllocError.{AllocError}
use Rattle.std.specs.declared.alloc.Global.{Global}
use Rattle.tape.specs.Added.{Adds, added}

-- the text was added, whatever value is answered with it
pub added_all : {A B : Type 0} {out end : Vec ℕ Global} {text : List ℕ} {a : A} (b : B) → Adds out end text (Ok a) → Adds out end text (Ok b)
added_all b h = grind arith

-- memory is wanting for a line, and so for the line with others behind it
pub wanting : {A B : Type 0} {out end : Vec ℕ Global} {line : List ℕ} {e : AllocError} (others : List ℕ) → Adds {A = A} out end line (Err e) → Adds {A = B} out end (line ++ others) (Err e)
wanting {out = out} {line = line} others h = record {
  adds = record {
    full = more (vec_capacity out) (length (vec_items out)) (length line) (length others) (length (line ++ others)) h.adds.full (length-append line others);
    some = h.adds.some;
    others = h.adds.others ++ others;
    text_is = ap (λ l. l ++ others) h.adds.text_is ∙ append_assoc h.adds.some h.adds.others others;
    after_is = h.adds.after_is;
  };
  capacity = h.capacity;
}
  where
    more : (c n l o lo : ℕ) → c < n + l → lo ≡ l + o → c < n + lo
    more c n l o lo h e = omega arith

-- a line was added, and then whatever comes of adding the others
pub adds_then : {A B : Type 0} {out mid end : Vec ℕ Global} {line others : List ℕ} {a : A} (r : Result B AllocError) → Adds out mid line (Ok a) → Adds mid end others r → Adds out end (line ++ others) r
adds_then {out = out} {line = line} {others = others} (Ok b) h k = record {
  adds = k.adds ∙ ap (λ l. l ++ others) h.adds ∙ append_assoc (vec_items out) line others;
  capacity = le_trans h.capacity k.capacity;
}
adds_then {out = out} {mid = mid} {line = line} {others = others} (Err e) h k = record {
  adds = record {
    full = less (vec_capacity out) (vec_capacity mid) (length (vec_items out)) (length line) (length others) (length (vec_items mid)) (length (line ++ others)) h.capacity k.adds.full (ap length h.adds ∙ length-append (vec_items out) line) (length-append line others);
    some = line ++ k.adds.some;
    others = k.adds.others;
    text_is = ap (λ l. line ++ l) k.adds.text_is ∙ sym (append_assoc line k.adds.some k.adds.others);
    after_is = k.adds.after_is ∙ ap (λ l. l ++ k.adds.some) h.adds ∙ append_assoc (vec_items out) line k.adds.some;
  };
  capacity = le_trans h.capacity k.capacity;
}
  where
    less : (c d n l o m lo : ℕ) → c ≤ d → d < m + o → m ≡ n + l → lo ≡ l + o → c < n + lo
    less c d n l o m lo h k em el = omega arith

-- what holds of a text holds of what was added, if that is the text
pub of_added : (P : List ℕ → Type 0) {A : Type 0} {out end : Vec ℕ Global} {text : List ℕ} (r : Result A AllocError) → Adds out end text r → P text → OnOk r (P (added out end))
of_added P r h p = grind (arith, drop_at)
