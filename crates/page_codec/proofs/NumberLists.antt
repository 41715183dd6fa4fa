-- How lists of numbers read and spell.
use Rattle.std.proofs.Common.{◌≡◌, ℕ, zero, suc, ◌+◌, ◌*◌, List, [], ◌∷◌, length, take, drop, refl, sym, ap, ◌∙◌, arith}
use Rattle.std.proofs.Math.Seq.{drop-nil}
use Rattle.byteorder.specs.Endian.{little_number, IsRead}
use Rattle.byteorder.specs.Numbers.{little_from-take}
use Rattle.page_codec.specs.Numbers.{records}

-- dropping twice drops the sum
pub drop-drop : {X : Type 0} (m n : ℕ) (xs : List X) → drop m (drop n xs) ≡ drop (n + m) xs
drop-drop m n [] = ap (λ ys. drop m ys) (drop-nil n) ∙ drop-nil m ∙ sym (drop-nil (n + m))
drop-drop m zero (x ∷ xs) = ap (λ k. drop k (x ∷ xs)) (omega arith)
drop-drop m (suc n) (x ∷ xs) = let e : suc n + m ≡ suc (n + m) = omega arith in rw e (drop-drop m n xs)

-- what was read number by number is the list of numbers
pub numbers_of-read : (n : ℕ) (src dst : List ℕ) → length dst ≡ n → IsRead little_number 4 src dst →
    dst ≡ records (little_number 4) 4 n src
numbers_of-read zero src [] len read = refl
numbers_of-read (suc n) src [] len read = cc
numbers_of-read zero src (x ∷ dst) len read = cc
numbers_of-read (suc n) src (x ∷ dst) len read =
    let head : x ≡ little_number 4 (take 4 src) =
    read 0 (omega arith) ∙ sym (little_from-take 0 4 4 src (omega arith)) in
    let rest : dst ≡ records (little_number 4) 4 n (drop 4 src) = numbers_of-read n (drop 4 src) dst (omega arith)
    (λ k below. read (suc k) (omega arith)
    ∙ ap (λ xs. little_number 4 xs) (ap (λ m. drop m src) (omega arith) ∙ sym (drop-drop (4 * k) 4 src))) in
    ap (λ y. y ∷ dst) head ∙ ap (λ ys. little_number 4 (take 4 src) ∷ ys) rest
