-- Bytes that are taken or given a piece at a time.
use Rattle.std.proofs.Common.{◌≡◌, ℕ, ◌+◌, ◌-◌, ◌≤◌, List, ◌++◌, length, take, drop, Option, Some, None, refl, ap, append_assoc, sym, ◌∙◌, arith, length-append, length-drop, length-take}
use Rattle.std.proofs.Math.Seq.{take-add, take-append-add, take-append_seam}
use Rattle.std.proofs.lemmas.List.{length-take-le, take-append-le, take-append-drop, take-take, drop-drop}
use Rattle.tp_edge.specs.Given.{with_given}
use Rattle.tp_edge.specs.Taken.{behind}

-- one piece behind another is both at once
behind-behind : (first next : List ℕ) (left : Option (List ℕ)) → behind first (behind next left) ≡ behind (first ++ next) left
behind-behind first next None = refl
behind-behind first next (Some rest) = ap Some (sym (append_assoc first next rest))

-- a piece was taken after these bytes
pub behind-append : (before middle now : Option (List ℕ)) (bytes piece : List ℕ) → before ≡ behind bytes middle → middle ≡ behind piece now → before ≡ behind (bytes ++ piece) now
behind-append before middle now bytes piece first then = first ∙ ap (λ left. behind bytes left) then ∙ behind-behind bytes piece now

-- a buffer was filled behind these bytes: its front is they and the front of the piece
pub take-filled : (bytes piece post rest : List ℕ) (len n room : ℕ) → len ≡ length bytes → n ≤ length piece → len + n ≤ room → take (len + n) (take room (bytes ++ (piece ++ post) ++ rest)) ≡ bytes ++ take n piece
take-filled bytes piece post rest len n room is within fits =
    let long : len + n ≤ length (bytes ++ (piece ++ post)) = omega (arith, length-append bytes (piece ++ post), length-append piece post) in
    take-take (len + n) room (bytes ++ (piece ++ post) ++ rest) fits
    ∙ take-append-le (len + n) (bytes ++ (piece ++ post)) rest long
    ∙ ap (λ k. take (k + n) (bytes ++ (piece ++ post))) is
    ∙ take-append-add bytes (piece ++ post) n
    ∙ ap (λ front. bytes ++ front) (take-append-le n piece post within)

-- bytes that are filled up keep their front
pub take-resized : (bytes more items : List ℕ) (len size : ℕ) → items ≡ take size bytes ++ more → len ≤ length bytes → len ≤ size → take len items ≡ take len bytes
take-resized bytes more items len size is within fits =
    let long : len ≤ length (take size bytes) = omega (arith, length-take size bytes) in
    ap (λ all. take len all) is ∙ take-append-le len (take size bytes) more long ∙ take-take len size bytes fits

-- a piece of n bytes adds n
pub length-append-take : (bytes piece : List ℕ) (n : ℕ) → n ≤ length piece → length (bytes ++ take n piece) ≡ length bytes + n
length-append-take bytes piece n within = rw (length-append bytes (take n piece), length-take-le n piece within) refl

-- the first a + n bytes are given once the next n are given after the first a
pub with_given-take : (held : Option (List ℕ)) (bytes : List ℕ) (a n : ℕ) → with_given (take n (drop a bytes)) (with_given (take a bytes) held) ≡ with_given (take (a + n) bytes) held
with_given-take None bytes a n = refl
with_given-take (Some held) bytes a n = rw (take-add a n bytes, append_assoc) refl

-- a piece was copied to the front of a buffer: it and what lies behind it are what was left
pub left-split : (left bytes piece rest : List ℕ) (at n : ℕ) → left ≡ drop at bytes → piece ≡ take (at + n - at) (drop at bytes) → at + n ≤ length bytes → left ≡ take n (piece ++ rest) ++ drop (at + n) bytes
left-split left bytes piece rest at n left-is piece-is within =
    let same : at + n - at ≡ n = omega arith in
    let copied : piece ≡ take n (drop at bytes) = piece-is ∙ ap (λ m. take m (drop at bytes)) same in
    let room : n ≤ length (drop at bytes) = omega (arith, length-drop at bytes) in
    let whole : length piece ≡ n = ap length copied ∙ length-take-le n (drop at bytes) room in
    let front : take n (piece ++ rest) ≡ piece = ap (λ m. take m (piece ++ rest)) (sym whole) ∙ take-append_seam piece rest in
    rw (front, copied, ← drop-drop n at bytes, take-append-drop) left-is
