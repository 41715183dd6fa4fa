-- Writes into a part of a list.
use Rattle.std.proofs.Common.{◌≡◌, ℕ, List, [], ◌++◌, length, refl, sym, ap, ◌∙◌, arith}
use Rattle.std.proofs.lemmas.List.{append_assoc, append-nil, length-append, take_at, drop_at}
use borrow.Rule.Slice.PartMut.{put_mid}

-- a part is replaced by a list of its length
pub put_mid-seam : (a k : ℕ) (front old back new : List ℕ) → length front ≡ a → length old ≡ k →
    put_mid a k (front ++ (old ++ back)) new ≡ front ++ (new ++ back)
put_mid-seam a k front old back new at len =
    rw (take_at front (old ++ back) a at, drop_at front (old ++ back) a at, drop_at old back k len) refl

-- a header is put together in two writes
pub header-joined : (front old more counts digest : List ℕ) → length front ≡ 8 → length old ≡ 24 → length more ≡ 32 →
    length counts ≡ 24
    → put_mid 32 32 (put_mid 8 24 (front ++ (old ++ more)) counts) digest ≡ front ++ (counts ++ digest)
header-joined front old more counts digest at len rest new =
    let first : put_mid 8 24 (front ++ (old ++ more)) counts ≡ front ++ (counts ++ more) =
    put_mid-seam 8 24 front old more counts at len in
    let regroup : front ++ (counts ++ more) ≡ (front ++ counts) ++ (more ++ []) =
    sym (append_assoc front counts more) ∙ ap (λ r. (front ++ counts) ++ r) (sym (append-nil more)) in
    let joined : length (front ++ counts) ≡ 32 = length-append front counts ∙ omega arith in
    let second : put_mid 32 32 ((front ++ counts) ++ (more ++ [])) digest ≡ (front ++ counts) ++ (digest ++ []) =
    put_mid-seam 32 32 (front ++ counts) more [] digest joined rest in
    ap (λ r. put_mid 32 32 r digest) (first ∙ regroup) ∙ second ∙
    rw (append-nil digest) (append_assoc front counts digest)
