-- Next fit: how many triangles are on each page that a part has begun.
use Rattle.std.proofs.Common.{◌≡◌, ℕ, zero, suc, ◌+◌, ◌-◌, ◌≤◌, Bool, true, false, not, cond, leb, List, [], ◌∷◌, ◌++◌}
use Rattle.std.proofs.Common.{length, map, filter, refl, sym, ap, ◌∙◌, subst, inl, inr, arith, add-one}
use Rattle.std.specs.List.{range_with_len}
use Rattle.std.proofs.lemmas.Bool.{cases_eq}
use Rattle.std.proofs.lemmas.Bool.Decides.{nat_tests}
use Rattle.std.proofs.lemmas.List.{map-append}
use Rattle.std.proofs.lemmas.List.Elements.{filter-append}
use Rattle.dag_core.specs.declared.heads.Heads.{Heads}
use Rattle.dag_core.proofs.ListSteps.{range_more}
use Rattle.page_file.specs.declared.fillings.Filling.{Filling}
use Rattle.page_file.specs.PagesRule.{place, fill, closed_at, group_size, is_terminal, sizes_of, root_filling}
use Rattle.page_file.specs.PagesRule.{root_count, other_filling, page_count}

fill-append : (filling : Filling) (xs ys : List ℕ) → fill filling (xs ++ ys) ≡ fill (fill filling xs) ys
fill-append filling [] ys = refl
fill-append filling (x ∷ xs) ys = fill-append (place filling x) xs ys

-- one more group: it is placed if it is of this part
abbrev pub placed_if : Bool → ℕ → Filling → Filling
placed_if test size filling = cond test (place filling size) filling

sizes_of-more : (test : ℕ → Bool) (heads : Heads) (n : ℕ) →
    sizes_of test heads (n + 1) ≡ sizes_of test heads n ++ map (group_size heads) (cond (test n) (n ∷ []) [])
sizes_of-more test heads n =
    ap (λ xs. map (group_size heads) (filter test xs)) (range_more n)
    ∙ ap (map (group_size heads)) (filter-append test (range_with_len 0 n) (n ∷ []))
    ∙ map-append (group_size heads) (filter test (range_with_len 0 n)) (filter test (n ∷ []))

pub fill-more : (start : Filling) (test : ℕ → Bool) (heads : Heads) (n : ℕ) →
    fill start (sizes_of test heads (n + 1)) ≡ placed_if (test n) (group_size heads n)
    (fill start (sizes_of test heads n))
fill-more start test heads n =
    ap (fill start) (sizes_of-more test heads n)
    ∙ fill-append start (sizes_of test heads n) (map (group_size heads) (cond (test n) (n ∷ []) []))
    ∙ last (test n)
  where
    last : (b : Bool) → fill (fill start (sizes_of test heads n))
        (map (group_size heads) (cond b (n ∷ []) [])) ≡ placed_if b (group_size heads n)
        (fill start (sizes_of test heads n))
    last true = refl
    last false = refl

pub root_filling-more : (heads : Heads) (n : ℕ) →
    root_filling heads (n + 1) ≡ placed_if (is_terminal heads n) (group_size heads n) (root_filling heads n)
unfolding root_filling
root_filling-more heads n = fill-more (closed_at 0) (is_terminal heads) heads n

pub other_filling-more : (heads : Heads) (n : ℕ) →
    other_filling heads (n + 1) ≡ placed_if (not (is_terminal heads n)) (group_size heads n) (other_filling heads n)
unfolding other_filling
other_filling-more heads n = fill-more (closed_at (root_count heads)) (λ g. not (is_terminal heads g)) heads n

-- ---- what is known of a part once n groups are looked at

-- at most one page a group is begun, from this page on; the last one has room for at most a page; room is on a page
pub record IsPart (start n : ℕ) (filling : Filling) : Type 0 where
  pub from : start ≤ filling.begun
  pub most : filling.begun ≤ start + n
  pub room : filling.room ≤ 1638
  pub none : filling.begun ≡ start → filling.room ≡ 0

IsPart-place : (start n size : ℕ) (filling : Filling) → IsPart start n filling →
    IsPart start (n + 1) (place filling size)
unfolding place
IsPart-place start n size filling part = by (leb size filling.room) refl
  where
    by : (b : Bool) → leb size filling.room ≡ b →
        IsPart start (n + 1) (cond b (record { begun = filling.begun; room = filling.room - size })
        (record { begun = filling.begun + 1; room = 1638 - size }))
    by true is = record {
      from = part.from;
      most = omega (arith, part.most);
      room = omega (arith, part.room);
      none = λ same. let room = part.none same in omega (arith, room);
    }
    by false is = record {
      from = omega (arith, part.from);
      most = omega (arith, part.most);
      room = omega arith;
      none = λ same. absurd (omega (arith, same, part.from));
    }

IsPart-placed_if : (start n size : ℕ) (filling : Filling) (b : Bool) → IsPart start n filling →
    IsPart start (n + 1) (placed_if b size filling)
IsPart-placed_if start n size filling true part = IsPart-place start n size filling part
IsPart-placed_if start n size filling false part =
    record { from = part.from; most = omega (arith, part.most); room = part.room; none = part.none }

pub root_part : (heads : Heads) (n : ℕ) → IsPart 0 n (root_filling heads n)
unfolding root_filling
root_part heads zero = record { from = omega arith; most = omega arith; room = omega arith; none = λ same. refl }
root_part heads (suc n) =
    let e : suc n ≡ n + 1 = sym (add-one n) in
    subst (λ k. IsPart 0 k (root_filling heads k)) (sym e)
    (subst (IsPart 0 (n + 1)) (sym (root_filling-more heads n))
    (IsPart-placed_if 0 n (group_size heads n) (root_filling heads n) (is_terminal heads n) (root_part heads n)))

pub other_part : (heads : Heads) (n : ℕ) → IsPart (root_count heads) n (other_filling heads n)
unfolding other_filling
other_part heads zero = record { from = omega arith; most = omega arith; room = omega arith; none = λ same. refl }
other_part heads (suc n) =
    let e : suc n ≡ n + 1 = sym (add-one n) in
    subst (λ k. IsPart (root_count heads) k (other_filling heads k)) (sym e)
    (subst (IsPart (root_count heads) (n + 1)) (sym (other_filling-more heads n))
    (IsPart-placed_if (root_count heads) n (group_size heads n) (other_filling heads n) (not (is_terminal heads n))
    (other_part heads n)))

pub root_count-le : (heads : Heads) → root_count heads ≤ length heads.groups
unfolding root_count
root_count-le heads = let part = root_part heads (length heads.groups) in omega (arith, part.most)

-- the same of a filling that is known to be this one
pub root_part-is : (heads : Heads) (n : ℕ) (filling : Filling) → filling ≡ root_filling heads n → IsPart 0 n filling
root_part-is heads n filling same = subst (IsPart 0 n) (sym same) (root_part heads n)

pub other_part-is : (heads : Heads) (n : ℕ) (filling : Filling) → filling ≡ other_filling heads n →
    IsPart (root_count heads) n filling
other_part-is heads n filling same = subst (IsPart (root_count heads) n) (sym same) (other_part heads n)

-- room is on a page that is begun
pub page_begun : (start n : ℕ) (filling : Filling) → IsPart start n filling → 1 ≤ filling.room → 1 ≤ filling.begun
page_begun start n filling part some = elim (cases_eq filling.begun start) [
  | inl same ↦ let none = part.none same in absurd (omega (arith, some, none))
  | inr other ↦ let from = part.from in grind (arith, nat_tests)
]

pub root-none : (heads : Heads) → record { begun = 0; room = 0 } ≡ root_filling heads 0
unfolding root_filling
root-none heads = refl

pub other-none : (heads : Heads) → record { begun = root_count heads; room = 0 } ≡ other_filling heads 0
unfolding other_filling
other-none heads = refl

pub root-place : (heads : Heads) (n : ℕ) (filling placed : Filling) (size : ℕ) → filling ≡ root_filling heads n →
    is_terminal heads n ≡ true → size ≡ group_size heads n →
    placed ≡ place filling size → placed ≡ root_filling heads (n + 1)
root-place heads n filling placed size before terminal is step =
    rw (step, before, is, root_filling-more heads n, terminal) refl

pub root-pass : (heads : Heads) (n : ℕ) (filling : Filling) → filling ≡ root_filling heads n →
    is_terminal heads n ≡ false → filling ≡ root_filling heads (n + 1)
root-pass heads n filling before terminal = rw (before, root_filling-more heads n, terminal) refl

pub other-place : (heads : Heads) (n : ℕ) (filling placed : Filling) (size : ℕ) → filling ≡ other_filling heads n →
    is_terminal heads n ≡ false → size ≡ group_size heads n →
    placed ≡ place filling size → placed ≡ other_filling heads (n + 1)
other-place heads n filling placed size before terminal is step =
    rw (step, before, is, other_filling-more heads n, terminal) refl

pub other-pass : (heads : Heads) (n : ℕ) (filling : Filling) → filling ≡ other_filling heads n →
    is_terminal heads n ≡ true → filling ≡ other_filling heads (n + 1)
other-pass heads n filling before terminal = rw (before, other_filling-more heads n, terminal) refl

pub other-none-at : (heads : Heads) (roots : ℕ) → roots ≡ root_count heads →
    record { begun = roots; room = 0 } ≡ other_filling heads 0
other-none-at heads roots same = rw same (other-none heads)

pub page_count-is : (heads : Heads) (g : ℕ) (filling : Filling) → filling ≡ other_filling heads g →
    g ≡ length heads.groups → filling.begun ≡ page_count heads
unfolding page_count
page_count-is heads g filling is all = ap (λ (f : Filling). f.begun) is ∙ ap (λ n. (other_filling heads n).begun) all
