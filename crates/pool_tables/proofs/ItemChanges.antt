-- One item of the table of frames is written, made, or not there.
use Rattle.std.proofs.Common.{◌≡◌, ℕ, ◌+◌, ◌==◌, nat_cmp, cond, Option, Some, None, refl, sym, ap, ◌∙◌, subst, arith}
use Rattle.std.proofs.lemmas.Bool.Decides.{nat_tests}
use Rattle.std.proofs.lemmas.Map.Entries.{sum_by-set_value, sum_by-insert_entry}
use Rattle.std.specs.BTreeMap.{BTreeMap, get, insert_entry, is_at, IsOrdered, Updates, WritesThrough}
use Rattle.std.specs.Cmp.{nat_cmp_total}
use Rattle.std.specs.List.{sum_by}
use Rattle.std.specs.Map.{values_of}
use Rattle.std.specs.Option.{option_map, unwrap_or}
use Rattle.pool_tables.specs.Changes.{times}
use Rattle.pool_tables.specs.FrameItems.{PutsItem, item_in, pin_count, pins_in}
use Rattle.pool_tables.specs.PinLists.{pinned_pages}
use Rattle.pool_tables.specs.declared.frame_item.FrameItem.{FrameItem}

abbrev pins_of : ℕ → FrameItem → ℕ
pins_of page item = times (pinned_pages item.pins) page

-- whether a query finds a number is whether it is the number
pub is_at-eqb : (a b : ℕ) → is_at (nat_cmp a) b ≡ (a == b)
is_at-eqb a b = grind (arith, nat_tests)

pub PutsItem-written : (frame : ℕ) (old new : BTreeMap ℕ FrameItem) (v w : FrameItem)
    → get nat_cmp old frame ≡ Some v → WritesThrough nat_cmp (nat_cmp frame) old w new
    → PutsItem frame (Some w) old.entries new.entries
PutsItem-written frame old new v w at writes = record {
  items = λ n. (writes.3 (rw at refl)).0 n ∙ ap (λ b. cond b (Some w) (item_in old.entries n)) (is_at-eqb frame n);
  pins =
      λ page. rw at (ap (λ es. sum_by (pins_of page) (values_of es) + pins_of page v) writes.0 ∙
      sum_by-set_value (pins_of page) (is_at (nat_cmp frame)) old.entries v w at);
  ordered = writes.4;
}

unwrapped : (page : ℕ) (item : Option FrameItem) → unwrap_or (option_map (pins_of page) item) 0 ≡ pins_in item page
unwrapped page None = refl
unwrapped page (Some item) = refl

pub PutsItem-inserted : (frame : ℕ) (old new : BTreeMap ℕ FrameItem) (w : FrameItem) → IsOrdered nat_cmp old
    → IsOrdered nat_cmp new → Updates nat_cmp old new frame (Some w)
    → new.entries ≡ insert_entry nat_cmp old.entries frame w → PutsItem frame (Some w) old.entries new.entries
PutsItem-inserted frame old new w ordered ordered_now updates inserted = record {
  items = λ n. updates.0 n ∙ ap (λ b. cond b (Some w) (item_in old.entries n)) (is_at-eqb frame n);
  pins =
      λ page. ap (λ k. pin_count new.entries page + k) (sym (unwrapped page (item_in old.entries frame))) ∙
      (ap (λ es. sum_by (pins_of page) (values_of es) + unwrap_or
      (option_map (pins_of page) (item_in old.entries frame)) 0) inserted ∙
      sum_by-insert_entry (pins_of page) nat_cmp_total old.entries frame w ordered);
  ordered = ordered_now;
}

-- the item of a frame is changed where it is
pub PutsItem-changed : (frame : ℕ) (change : FrameItem → FrameItem) (old new : BTreeMap ℕ FrameItem) (v w : FrameItem)
    → get nat_cmp old frame ≡ Some v → w ≡ change v → WritesThrough nat_cmp (nat_cmp frame) old w new
    → PutsItem frame (option_map change (item_in old.entries frame)) old.entries new.entries
PutsItem-changed frame change old new v w at is writes =
    let mapped : option_map change (item_in old.entries frame) ≡ Some w =
    ap (option_map change) at ∙ ap (λ (x : FrameItem). Some x) (sym is) in
    subst (λ (o : Option FrameItem). PutsItem frame o old.entries new.entries) (sym mapped)
    (PutsItem-written frame old new v w at writes)

pub pins_in-some : (items : BTreeMap ℕ FrameItem) (frame : ℕ) (v : FrameItem) (page : ℕ)
    → get nat_cmp items frame ≡ Some v
    → pins_in (item_in items.entries frame) page ≡ times (pinned_pages v.pins) page
pins_in-some items frame v page at = ap (λ o. pins_in o page) at

-- a Pin of a frame that began
pub PutsItem-pinned : (frame : ℕ) (change : Option FrameItem → FrameItem) (old new : BTreeMap ℕ FrameItem)
    (v w : FrameItem)
    → get nat_cmp old frame ≡ Some v → w ≡ change (Some v) → WritesThrough nat_cmp (nat_cmp frame) old w new
    → PutsItem frame (Some (change (item_in old.entries frame))) old.entries new.entries
PutsItem-pinned frame change old new v w at is writes =
    let made : change (item_in old.entries frame) ≡ w = ap change at ∙ sym is in
    subst (λ (x : FrameItem). PutsItem frame (Some x) old.entries new.entries) (sym made)
    (PutsItem-written frame old new v w at writes)

-- a Pin of a new frame
pub PutsItem-begun : (frame : ℕ) (change : Option FrameItem → FrameItem) (old new : BTreeMap ℕ FrameItem)
    (w : FrameItem)
    → get nat_cmp old frame ≡ None → w ≡ change None → IsOrdered nat_cmp old → IsOrdered nat_cmp new
    → Updates nat_cmp old new frame (Some w) → new.entries ≡ insert_entry nat_cmp old.entries frame w
    → PutsItem frame (Some (change (item_in old.entries frame))) old.entries new.entries
PutsItem-begun frame change old new w absent is ordered ordered_now updates inserted =
    let made : change (item_in old.entries frame) ≡ w = ap change absent ∙ sym is in
    subst (λ (x : FrameItem). PutsItem frame (Some x) old.entries new.entries) (sym made)
    (PutsItem-inserted frame old new w ordered ordered_now updates inserted)
