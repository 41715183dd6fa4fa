-- How many triangles next fit puts on each page of a part.
use Rattle.std.proofs.Common.{◌≡◌, ℕ, zero, suc, ◌+◌, ◌-◌, ◌<◌, ◌≤◌, Bool, true, false, cond, eqb, leb, refl, sym, ap}
use Rattle.std.proofs.Common.{◌∙◌, subst, inl, inr, arith, add-one}
use Rattle.std.proofs.lemmas.Bool.{cases_eq}
use Rattle.std.proofs.lemmas.Bool.Decides.{nat_tests}
use Rattle.dag_core.specs.declared.heads.Heads.{Heads}
use Rattle.page_file.specs.declared.fillings.Filling.{Filling}
use Rattle.page_file.specs.PagesRule.{place, fill, closed_at, group_size, sizes_of}
use Rattle.page_file.proofs.NextFit.{placed_if, fill-more}

-- what a group of this size and page has on page p
abbrev pub share : ℕ → ℕ → ℕ → ℕ
share page size p = cond (eqb page p) size 0

share-here : (page size p : ℕ) → page ≡ p → share page size p ≡ size
share-here page size p here = let test : eqb page p ≡ true = grind (arith, nat_tests) in rw test refl

share-none : (page size p : ℕ) → (page ≡ p → ⊥) → share page size p ≡ 0
share-none page size p other = let test : eqb page p ≡ false = grind (arith, nat_tests) in rw test refl

-- the triangles on page p of those of the first n groups that pass the test, by the groups' pages and sizes
abbrev pub load : (ℕ → Bool) → (ℕ → ℕ) → (ℕ → ℕ) → ℕ → ℕ → ℕ
load test page size p zero = 0
load test page size p (suc n) = load test page size p n + cond (test n) (share (page n) (size n) p) 0

-- pages from `start` on are filled: no other page has a triangle, each page begun has some, and none has too many
pub record IsLoaded (start : ℕ) (load : ℕ → ℕ) (filling : Filling) : Type 0 where
  pub room : filling.room ≤ 1638
  pub from : start ≤ filling.begun
  pub none : filling.begun ≡ start → filling.room ≡ 0
  pub before : (p : ℕ) → p < start → load p ≡ 0
  pub after : (p : ℕ) → filling.begun ≤ p → load p ≡ 0
  pub some : (p : ℕ) → start ≤ p → p < filling.begun → 1 ≤ load p
  pub most : (p : ℕ) → start ≤ p → p < filling.begun → load p ≤ 1638
  pub last : (p : ℕ) → start ≤ p → p + 1 ≡ filling.begun → load p + filling.room ≤ 1638

-- a group that fits on the last page
fits : (start : ℕ) (load : ℕ → ℕ) (begun room size page : ℕ) →
    IsLoaded start load (record { begun = begun; room = room }) → 1 ≤ size → size ≤ room →
    page ≡ begun - 1 → IsLoaded start (λ p. load p + share page size p) (record { begun = begun; room = room - size })
fits start load begun room size page loaded some room_for is =
    let begins : start < begun = elim (cases_eq begun start) [
      | inl same ↦ let none = loaded.none same in absurd (omega (arith, none, some, room_for))
      | inr other ↦ let from = loaded.from in grind (arith, nat_tests)
    ] in
    record {
      room = omega (arith, loaded.room);
      from = loaded.from;
      none = λ same. absurd (omega (arith, same, begins));
      before =
          λ p below. omega (
            arith,
            loaded.before p below,
            share-none page size p (λ e. omega (arith, e, is, begins, below)),
          );
      after =
          λ p beyond. omega (
            arith,
            loaded.after p beyond,
            share-none page size p (λ e. omega (arith, e, is, begins, beyond)),
          );
      some = λ p above below. omega (arith, loaded.some p above below);
      most = λ p above below. elim (cases_eq page p) [
        | inl here ↦ omega (
          arith,
          loaded.last p above (omega (arith, is, here, begins)),
          share-here page size p here,
          room_for,
        )
        | inr other ↦ omega (arith, loaded.most p above below, share-none page size p other)
      ];
      last =
          λ p above end. omega (
            arith,
            loaded.last p above end,
            share-here page size p (omega (arith, is, end)),
            room_for,
          );
    }

-- a group that begins a page
begins : (start : ℕ) (load : ℕ → ℕ) (begun room size page : ℕ) →
    IsLoaded start load (record { begun = begun; room = room }) → 1 ≤ size → size ≤ 1638 →
    page ≡ begun → IsLoaded start (λ p. load p + share page size p) (record { begun = begun + 1; room = 1638 - size })
begins start load begun room size page loaded some most is =
    record {
      room = omega arith;
      from = omega (arith, loaded.from);
      none = λ same. absurd (omega (arith, same, loaded.from));
      before =
          λ p below. omega (
            arith,
            loaded.before p below,
            share-none page size p (λ e. omega (arith, e, is, loaded.from, below)),
          );
      after =
          λ p beyond. omega (
            arith,
            loaded.after p (omega (arith, beyond)),
            share-none page size p (λ e. omega (arith, e, is, beyond)),
          );
      some = λ p above below. elim (cases_eq page p) [
        | inl here ↦ omega (arith, share-here page size p here, some)
        | inr other ↦ let inside : p < begun = grind (arith, nat_tests) in omega (arith, loaded.some p above inside)
      ];
      most = λ p above below. elim (cases_eq page p) [
        | inl here ↦ omega (arith, share-here page size p here, most, loaded.after p (omega (arith, is, here)))
        | inr other ↦ let inside : p < begun =
            grind (arith, nat_tests) in omega (arith, loaded.most p above inside, share-none page size p other)
      ];
      last =
          λ p above end. omega (
            arith,
            loaded.after p (omega (arith, end)),
            share-here page size p (omega (arith, is, end)),
            most,
          );
    }

-- what placing does, by the test
abbrev pub fitted : Filling → ℕ → Filling
fitted filling size = record { begun = filling.begun; room = filling.room - size }

abbrev pub on_new : Filling → ℕ → Filling
on_new filling size = record { begun = filling.begun + 1; room = 1638 - size }

IsLoaded-place : (start : ℕ) (load : ℕ → ℕ) (filling : Filling) (size page : ℕ) → IsLoaded start load filling →
    1 ≤ size → size ≤ 1638 →
    page ≡ (place filling size).begun - 1 → IsLoaded start (λ p. load p + share page size p) (place filling size)
unfolding place
IsLoaded-place start load filling size page loaded some most is = by (leb size filling.room) refl is
  where
    by : (b : Bool) → leb size filling.room ≡ b →
        page ≡ (cond b (fitted filling size) (on_new filling size)).begun - 1 →
        IsLoaded start (λ p. load p + share page size p) (cond b (fitted filling size) (on_new filling size))
    by true test at = fits start load filling.begun filling.room size page loaded some (grind (arith, nat_tests)) at
    by false test at = begins start load filling.begun filling.room size page loaded some most (omega (arith, at))

IsLoaded-step : (start : ℕ) (load : ℕ → ℕ) (filling : Filling) (size page : ℕ) (b : Bool) →
    IsLoaded start load filling → 1 ≤ size → size ≤ 1638 →
    (b ≡ true → page ≡ (place filling size).begun - 1) →
    IsLoaded start (λ p. load p + cond b (share page size p) 0) (placed_if b size filling)
IsLoaded-step start load filling size page true loaded some most is =
    IsLoaded-place start load filling size page loaded some most (is refl)
IsLoaded-step start load filling size page false loaded some most is = record {
  room = loaded.room;
  from = loaded.from;
  none = loaded.none;
  before = λ p below. omega (arith, loaded.before p below);
  after = λ p beyond. omega (arith, loaded.after p beyond);
  some = λ p above below. omega (arith, loaded.some p above below);
  most = λ p above below. omega (arith, loaded.most p above below);
  last = λ p above end. omega (arith, loaded.last p above end);
}

-- the part once n groups are looked at
abbrev pub part : ℕ → (ℕ → Bool) → Heads → ℕ → Filling
part start test heads n = fill (closed_at start) (sizes_of test heads n)

-- the pages of the groups below n are those of the rule, and their sizes are those of pages
pub record ArePlaced (start : ℕ) (test : ℕ → Bool) (heads : Heads) (page : ℕ → ℕ) (n : ℕ) : Type 0 where
  pub pages : (g : ℕ) → g < n → test g ≡ true → page g ≡ (part start test heads (g + 1)).begun - 1
  pub some : (g : ℕ) → g < n → 1 ≤ group_size heads g
  pub most : (g : ℕ) → g < n → group_size heads g ≤ 1638

pub loaded : (start : ℕ) (test : ℕ → Bool) (heads : Heads) (page : ℕ → ℕ) (n : ℕ) → ArePlaced start test heads page n →
    IsLoaded start (λ p. load test page (group_size heads) p n) (part start test heads n)
loaded start test heads page zero placed = record {
  room = omega arith;
  from = omega arith;
  none = λ same. refl;
  before = λ p below. refl;
  after = λ p beyond. refl;
  some = λ p above below. absurd (omega (arith, above, below));
  most = λ p above below. omega arith;
  last = λ p above end. omega arith;
}
loaded start test heads page (suc n) placed =
    let e : suc n ≡ n + 1 = sym (add-one n) in
    let before = loaded start test heads page n (record {
      pages = λ g below. placed.pages g (omega (arith, below));
      some = λ g below. placed.some g (omega (arith, below));
      most = λ g below. placed.most g (omega (arith, below));
    }) in
    let more : part start test heads (suc n) ≡ placed_if (test n) (group_size heads n) (part start test heads n) =
    ap (part start test heads) e ∙ fill-more (closed_at start) test heads n in
    let page_is : test n ≡ true → page n ≡ (place (part start test heads n) (group_size heads n)).begun - 1 = λ is.
    placed.pages n (omega arith) is ∙ ap (λ (f : Filling). f.begun - 1) (fill-more (closed_at start) test heads n)
    ∙ ap (λ b. (placed_if b (group_size heads n) (part start test heads n)).begun - 1) is in
    subst (IsLoaded start (λ p. load test page (group_size heads) p (suc n))) (sym more)
    (IsLoaded-step start (λ p. load test page (group_size heads) p n) (part start test heads n) (group_size heads n)
    (page n) (test n) before
    (placed.some n (omega arith)) (placed.most n (omega arith)) page_is)

place-rises : (filling : Filling) (size : ℕ) → filling.begun ≤ (place filling size).begun
unfolding place
place-rises filling size = by (leb size filling.room)
  where
    by : (b : Bool) → filling.begun ≤ (cond b (fitted filling size) (on_new filling size)).begun
    by true = omega arith
    by false = omega arith

placed-rises : (filling : Filling) (size : ℕ) (b : Bool) → filling.begun ≤ (placed_if b size filling).begun
placed-rises filling size true = place-rises filling size
placed-rises filling size false = omega arith

-- no page number falls: a part with more groups has begun at least as many pages
pub part-rises : (start : ℕ) (test : ℕ → Bool) (heads : Heads) (n more : ℕ) →
    (part start test heads n).begun ≤ (part start test heads (n + more)).begun
part-rises start test heads n zero =
    let e : n + 0 ≡ n = omega arith in
    subst (λ k. (part start test heads n).begun ≤ (part start test heads k).begun) (sym e) (omega arith)
part-rises start test heads n (suc more) =
    let e : n + suc more ≡ (n + more) + 1 = omega arith in
    let step = ap (λ (f : Filling). f.begun) (fill-more (closed_at start) test heads (n + more)) in
    let rise = placed-rises (part start test heads (n + more)) (group_size heads (n + more)) (test (n + more)) in
    subst (λ k. (part start test heads n).begun ≤ (part start test heads k).begun) (sym e)
    (omega (arith, part-rises start test heads n more, step, rise))

pub part-rises-to : (start : ℕ) (test : ℕ → Bool) (heads : Heads) (n later : ℕ) → n ≤ later →
    (part start test heads n).begun ≤ (part start test heads later).begun
part-rises-to start test heads n later before =
    let e : n + (later - n) ≡ later = omega (arith, before) in
    subst (λ k. (part start test heads n).begun ≤ (part start test heads k).begun) e
    (part-rises start test heads n (later - n))
