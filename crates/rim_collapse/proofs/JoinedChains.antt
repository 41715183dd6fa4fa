-- A corner linked to a chain, and two chains joined.
use Rattle.std.proofs.Common.{◌≡◌, ◌≢◌, inl, inr, ℕ, suc, ◌+◌, ◌-◌, ◌<◌, Bool, true, false}
use Rattle.std.proofs.Common.{cond, eqb}
use Rattle.std.proofs.Common.{List, [], ◌∷◌, ◌++◌, length, map, take, set, get_or, All, sum_by, refl, sym, ap, ◌∙◌}
use Rattle.std.proofs.Common.{subst}
use Rattle.std.proofs.Common.{arith}
use Rattle.std.proofs.lemmas.Bool.{cases_Bool}
use Rattle.std.proofs.lemmas.List.{get_or-set_other, get_or-set_same, length-set, take_more}
use Rattle.std.proofs.lemmas.List.{length-take-le}
use Rattle.std.proofs.lemmas.List.Elements.{All-weaker}
use Rattle.std.proofs.lemmas.List.Sums.{sum_by-append, sum_by-cons}
use Rattle.rim_collapse.specs.Internal.Chains.{sum_at, walk}
use Rattle.rim_collapse.specs.Internal.Faces.{renumbered}
use Rattle.rim_collapse.proofs.ChainLaws.{IsLinkedAt, chain-at, chain-below, chain-none, chain-once}
use Rattle.rim_collapse.proofs.ChainLaws.{differ_from, differ_is, equal_from, equal_is, length-walk, sum_at-push}
use Rattle.rim_collapse.proofs.ChainLaws.{walk-joined, walk-set}

-- ---- one more corner

-- corner i, a place of n, is put before the others of n
pub linked-more : (numbers firsts counts nexts : List ℕ) (i n p : ℕ) → i < length numbers → i < length nexts →
    n < length firsts → length counts ≡ length firsts → get_or numbers i 0 ≡ n →
    IsLinkedAt p (take i numbers) (walk nexts (get_or counts p 0) (get_or firsts p 0)) →
    IsLinkedAt p (take (i + 1) numbers)
    (walk (set nexts i (get_or firsts n 0)) (get_or (set counts n (get_or counts n 0 + 1)) p 0)
    (get_or (set firsts n i) p 0))
linked-more numbers firsts counts nexts i n p within in_nexts in_firsts same at linked f =
    let l = walk nexts (get_or counts p 0) (get_or firsts p 0) in
    let size : length (take i numbers) ≡ i = length-take-le i numbers (omega arith) in
    let apart : All (λ d. eqb d i ≡ false) l =
    All-weaker (λ d. d < length (take i numbers)) (λ d. eqb d i ≡ false)
    (λ d below. differ_is d i (omega (arith, size, below))) l (chain-below p (take i numbers) l linked) in
    let stays : walk (set nexts i (get_or firsts n 0)) (get_or counts p 0) (get_or firsts p 0) ≡ l =
    walk-set nexts i (get_or firsts n 0) (get_or counts p 0) (get_or firsts p 0) apart in
    let from_zero : 0 + length (take i numbers) ≡ i = omega (arith, size) in
    let whole : sum_at f p 0 (take (i + 1) numbers) ≡ sum_at f p 0 (take i numbers) + cond (eqb n p) (f i) 0 =
    ap (sum_at f p 0) (take_more numbers i 0 within) ∙ sum_at-push f p 0 (take i numbers) (get_or numbers i 0) ∙
    ap (λ k. sum_at f p 0 (take i numbers) + cond (eqb (get_or numbers i 0) p) (f k) 0) from_zero ∙
    ap (λ m. sum_at f p 0 (take i numbers) + cond (eqb m p) (f i) 0) at in
    elim (cases_Bool (eqb n p)) [
      | inl here ↦
          (let is : n ≡ p = equal_from n p here in
          let count : get_or (set counts n (get_or counts n 0 + 1)) p 0 ≡ suc (get_or counts p 0) =
          subst (λ q. get_or (set counts n (get_or counts n 0 + 1)) q 0 ≡ suc (get_or counts q 0)) is
          (get_or-set_same counts n (get_or counts n 0 + 1) 0 (omega arith) ∙ omega arith) in
          let first : get_or (set firsts n i) p 0 ≡ i =
          subst (λ q. get_or (set firsts n i) q 0 ≡ i) is (get_or-set_same firsts n i 0 in_firsts) in
          let next : get_or (set nexts i (get_or firsts n 0)) i 0 ≡ get_or firsts p 0 =
          get_or-set_same nexts i (get_or firsts n 0) 0 in_nexts ∙ ap (λ q. get_or firsts q 0) is in
          let walked : walk (set nexts i (get_or firsts n 0)) (suc (get_or counts p 0)) i ≡ i ∷ l =
          ap (λ c. i ∷ walk (set nexts i (get_or firsts n 0)) (get_or counts p 0) c) next ∙
          ap (λ w. i ∷ w) stays in
          let one : cond (eqb n p) (f i) 0 ≡ f i = rw here refl in
          ap (λ m. sum_by f (walk (set nexts i (get_or firsts n 0)) m (get_or (set firsts n i) p 0))) count ∙
          ap (λ c. sum_by f (walk (set nexts i (get_or firsts n 0)) (suc (get_or counts p 0)) c)) first ∙
          ap (sum_by f) walked ∙ sum_by-cons f i l ∙ (omega (arith, linked f, whole, one)))
      | inr other ↦
          (let is : p ≢ n = λ e. differ_from n p other (sym e) in
          let none : cond (eqb n p) (f i) 0 ≡ 0 = rw other refl in
          rw (
            get_or-set_other counts n p (get_or counts n 0 + 1) 0 is,
            get_or-set_other firsts n p i 0 is,
            stays,
          ) (omega (arith, linked f, whole, none)))
    ]

-- ---- two chains joined

-- a collapse of a to b leaves no place of a,
renumbered-none : (f : ℕ → ℕ) (a b i : ℕ) (numbers : List ℕ) → a ≢ b → sum_at f a i (map (renumbered a b) numbers) ≡ 0
unfolding renumbered
renumbered-none f a b i [] apart = refl
renumbered-none f a b i (n ∷ numbers) apart =
    let rest = renumbered-none f a b (i + 1) numbers apart in
    elim (cases_Bool (eqb n a)) [
      | inl at ↦ rw (at, differ_is b a (λ e. apart (sym e))) (omega (arith, rest))
      | inr off ↦ rw (off, off) (omega (arith, rest))
    ]

-- has a's places at b,
renumbered-both : (f : ℕ → ℕ) (a b i : ℕ) (numbers : List ℕ) → a ≢ b →
    sum_at f b i (map (renumbered a b) numbers) ≡ sum_at f a i numbers + sum_at f b i numbers
unfolding renumbered
renumbered-both f a b i [] apart = refl
renumbered-both f a b i (n ∷ numbers) apart =
    let rest = renumbered-both f a b (i + 1) numbers apart in
    elim (cases_Bool (eqb n a)) [
      | inl at ↦
          (let off_b : eqb n b ≡ false = differ_is n b (λ e. apart (sym (equal_from n a at) ∙ e)) in
          rw (at, equal_is b b refl, off_b) (omega (arith, rest)))
      | inr off ↦ rw off (by (eqb n b) rest)
    ]
  where
    by : (x : Bool) → sum_at f b (i + 1) (map (renumbered a b) numbers) ≡
        sum_at f a (i + 1) numbers + sum_at f b (i + 1) numbers →
        cond x (f i) 0 + sum_at f b (i + 1) (map (renumbered a b) numbers) ≡
        0 + sum_at f a (i + 1) numbers + (cond x (f i) 0 + sum_at f b (i + 1) numbers)
    by true h = omega arith
    by false h = omega arith

-- and leaves the places of other points
renumbered-other : (f : ℕ → ℕ) (a b p i : ℕ) (numbers : List ℕ) → p ≢ a → p ≢ b →
    sum_at f p i (map (renumbered a b) numbers) ≡ sum_at f p i numbers
unfolding renumbered
renumbered-other f a b p i [] off_a off_b = refl
renumbered-other f a b p i (n ∷ numbers) off_a off_b =
    let rest = renumbered-other f a b p (i + 1) numbers off_a off_b in
    elim (cases_Bool (eqb n a)) [
      | inl at ↦
          (let off_p : eqb n p ≡ false = differ_is n p (λ e. off_a (sym e ∙ equal_from n a at)) in
          rw (at, differ_is b p (λ e. off_b (sym e)), off_p) (omega (arith, rest)))
      | inr off ↦ rw off (ap (λ m. cond (eqb n p) (f i) 0 + m) rest)
    ]

pub linked-joined : (numbers firsts counts nexts : List ℕ) (a b l p : ℕ) → a ≢ b → a < length firsts →
    b < length firsts → p < length firsts → length counts ≡ length firsts → length nexts ≡ length numbers →
    0 < get_or counts a 0 →
    l ≡ get_or (walk nexts (get_or counts a 0) (get_or firsts a 0)) (get_or counts a 0 - 1) 0 →
    ((q : ℕ) → q < length firsts → IsLinkedAt q numbers (walk nexts (get_or counts q 0) (get_or firsts q 0))) →
    IsLinkedAt p (map (renumbered a b) numbers)
    (walk (set nexts l (get_or firsts b 0))
    (get_or (set (set counts b (get_or counts b 0 + get_or counts a 0)) a 0) p 0)
    (get_or (set firsts b (get_or firsts a 0)) p 0))
linked-joined numbers firsts counts nexts a b l p apart in_a in_b in_p same many some is linked f =
    elim (cases_Bool (eqb p a)) [
      | inl at_a ↦
          (let e : p ≡ a = equal_from p a at_a in
          let none : get_or counts2 p 0 ≡ 0 =
          ap (λ q. get_or counts2 q 0) e ∙
          get_or-set_same (set counts b (get_or counts b 0 + get_or counts a 0)) a 0 0
          (omega (arith, same, length-set counts b (get_or counts b 0 + get_or counts a 0))) in
          rw none (sym (ap (λ q. sum_at f q 0 (map (renumbered a b) numbers)) e ∙
          renumbered-none f a b 0 numbers apart)))
      | inr off_a ↦
          elim (cases_Bool (eqb p b)) [
            | inl at_b ↦ subst (λ q. sum_by f (walk nexts2 (get_or counts2 q 0) (get_or firsts2 q 0)) ≡
                sum_at f q 0 (map (renumbered a b) numbers)) (sym (equal_from p b at_b)) both
            | inr off_b ↦ other (differ_from p a off_a) (differ_from p b off_b)
          ]
    ]
  where
    firsts2 : List ℕ
    firsts2 = set firsts b (get_or firsts a 0)

    counts2 : List ℕ
    counts2 = set (set counts b (get_or counts b 0 + get_or counts a 0)) a 0

    nexts2 : List ℕ
    nexts2 = set nexts l (get_or firsts b 0)

    from_a : List ℕ
    from_a = walk nexts (get_or counts a 0) (get_or firsts a 0)

    size : length from_a ≡ get_or counts a 0
    size = length-walk nexts (get_or counts a 0) (get_or firsts a 0)

    in_nexts : l < length nexts
    in_nexts = omega (
      arith,
      many,
      subst (λ c. c < length numbers) (sym is)
          (chain-below a numbers from_a (linked a in_a) (get_or counts a 0 - 1) 0 (omega (arith, size, some))),
    )

    at_l : get_or numbers l 0 ≡ a
    at_l = subst (λ c. get_or numbers c 0 ≡ a) (sym is)
        (chain-at a numbers from_a (linked a in_a) (get_or counts a 0 - 1) 0 (omega (arith, size, some)))

    -- the last corner of a isn't on another chain
    stays : (q : ℕ) → q < length firsts → q ≢ a →
        walk nexts2 (get_or counts q 0) (get_or firsts q 0) ≡ walk nexts (get_or counts q 0) (get_or firsts q 0)
    stays q in_q off =
        walk-set nexts l (get_or firsts b 0) (get_or counts q 0) (get_or firsts q 0)
        (chain-none q numbers (walk nexts (get_or counts q 0) (get_or firsts q 0)) (λ c. eqb c l) (linked q in_q)
        (λ k within at. differ_is k l (λ e. off (sym at ∙ ap (λ c. get_or numbers c 0) e ∙ at_l))))

    joined : (n : ℕ) → get_or counts a 0 ≡ suc n →
        walk nexts2 (get_or counts b 0 + get_or counts a 0) (get_or firsts a 0) ≡
        from_a ++ walk nexts (get_or counts b 0) (get_or firsts b 0)
    joined n e =
        let whole : get_or counts b 0 + get_or counts a 0 ≡ suc (n + get_or counts b 0) = omega (arith, e) in
        let walked : from_a ≡ walk nexts (suc n) (get_or firsts a 0) =
        ap (λ m. walk nexts m (get_or firsts a 0)) e in
        let before : get_or counts a 0 - 1 ≡ n = omega (arith, e) in
        ap (λ m. walk nexts2 m (get_or firsts a 0)) whole ∙
        walk-joined nexts l (get_or firsts b 0) (get_or counts b 0) n (get_or firsts a 0) in_nexts
        (sym (is ∙ ap (λ m. get_or from_a m 0) before ∙ ap (λ w. get_or w n 0) walked))
        (λ k below. subst (λ w. eqb (get_or w k 0) l ≡ false) walked
        (subst (λ c. eqb (get_or from_a k 0) c ≡ false) (sym (is ∙ ap (λ m. get_or from_a m 0) before))
        (chain-once a numbers from_a k n (linked a in_a) below (omega (arith, size, e))))) ∙
        ap (λ w. w ++ walk nexts2 (get_or counts b 0) (get_or firsts b 0)) (sym walked) ∙
        ap (λ w. from_a ++ w) (stays b in_b (λ h. apart (sym h)))

    suc_of : (n : ℕ) → 0 < n → n ≡ suc (n - 1)
    suc_of n h = omega arith

    both : sum_by f (walk nexts2 (get_or counts2 b 0) (get_or firsts2 b 0)) ≡
        sum_at f b 0 (map (renumbered a b) numbers)
    both =
        let count : get_or counts2 b 0 ≡ get_or counts b 0 + get_or counts a 0 =
        get_or-set_other (set counts b (get_or counts b 0 + get_or counts a 0)) a b 0 0 (λ h. apart (sym h)) ∙
        get_or-set_same counts b (get_or counts b 0 + get_or counts a 0) 0 (omega arith) in
        let first : get_or firsts2 b 0 ≡ get_or firsts a 0 = get_or-set_same firsts b (get_or firsts a 0) 0 in_b in
        let walked = joined (get_or counts a 0 - 1) (suc_of (get_or counts a 0) some) in
        ap (λ m. sum_by f (walk nexts2 m (get_or firsts2 b 0))) count ∙
        ap (λ c. sum_by f (walk nexts2 (get_or counts b 0 + get_or counts a 0) c)) first ∙
        ap (sum_by f) walked ∙
        sum_by-append f from_a (walk nexts (get_or counts b 0) (get_or firsts b 0)) ∙
        (omega (arith, linked a in_a f, linked b in_b f, renumbered-both f a b 0 numbers apart))

    other : p ≢ a → p ≢ b →
        sum_by f (walk nexts2 (get_or counts2 p 0) (get_or firsts2 p 0)) ≡ sum_at f p 0 (map (renumbered a b) numbers)
    other off_a off_b =
        let count : get_or counts2 p 0 ≡ get_or counts p 0 =
        get_or-set_other (set counts b (get_or counts b 0 + get_or counts a 0)) a p 0 0 off_a ∙
        get_or-set_other counts b p (get_or counts b 0 + get_or counts a 0) 0 off_b in
        let first : get_or firsts2 p 0 ≡ get_or firsts p 0 =
        get_or-set_other firsts b p (get_or firsts a 0) 0 off_b in
        ap (λ m. sum_by f (walk nexts2 m (get_or firsts2 p 0))) count ∙
        ap (λ c. sum_by f (walk nexts2 (get_or counts p 0) c)) first ∙
        ap (sum_by f) (stays p in_p off_a) ∙ linked p in_p f ∙
        sym (renumbered-other f a b p 0 numbers off_a off_b)
