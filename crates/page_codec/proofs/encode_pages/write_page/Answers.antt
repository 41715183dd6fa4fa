use Rattle.std.proofs.Common.{◌≡◌, ℕ, ◌+◌, ◌-◌, ◌<◌, ◌≤◌, [], ◌++◌, length, get_or, take, drop, sym, ap, ◌∙◌, subst}
use Rattle.std.proofs.Common.{arith}
use Rattle.std.specs.List.{flat_map}
use Rattle.std.proofs.lemmas.List.{append-nil, append_assoc, drop_all, length-append}
use Rattle.dag_core.specs.Members.{no_group, group_at}
use Rattle.page_codec.specs.Spelling.{cluster_bytes}
use Rattle.page_codec.proofs.Homes.{members_of}
use Rattle.page_codec.proofs.Links.{IsNext, IsNext-next_on}
use Rattle.page_codec.proofs.PageBytes.{bytes_of, bytes_of-left, bytes_of-groups, length-groups-le, length-tris}
use Rattle.page_codec.proofs.PageBytes.{members-within}
use Rattle.page_codec.proofs.encode_pages.write_page.Goals as goal

pub groups-init : goal.groups-init
groups-init c =
    let dag = c.args.dag.now in
    let groups = dag.heads.groups in
    let page = c.args.page in
    let P : ℕ → Type 0 = λ n. IsNext groups page 0 n in
    let walk =
    subst P (sym c.first_group-g.ensures.group) (IsNext-next_on groups page (length groups) 0 (omega arith)) in
    let all = ap (bytes_of dag) (sym walk.members) in
    record {
      within = walk.within;
      here = walk.here;
      room = omega (arith, ap length all);
      all = all;
    }

pub write_members-end-requires : goal.write_members-end-requires
write_members-end-requires c =
    let dag = c.args.dag.now in
    let groups = dag.heads.groups in
    let g = c.groups.g in
    let below : g < length groups = rw c.as_slice-groups.ensures at c.groups-test.true in
    let members = members-within dag.heads c.requires.laid_out.rules g below in
    let count = length-tris dag c.requires.laid_out.counts in
    let within : (group_at dag.heads g).first + (group_at dag.heads g).count ≤ length dag.tris =
    omega (arith, members, count) in
    let part =
    flat_map cluster_bytes (take (group_at dag.heads g).count (drop (group_at dag.heads g).first dag.tris)) in
    let left = bytes_of-left dag c.args.page g below (c.groups.invariant.here below) within in
    let total =
    length-groups-le dag c.requires.laid_out.rules c.requires.laid_out.counts c.args.page c.requires.page_range in
    rw (c.as_slice-groups.ensures, c.as_slice.ensures) (record {
      members = within;
      room =
          omega (
            arith,
            ap length left,
            length-append part
                (bytes_of dag (flat_map (members_of c.args.page) (drop (g + 1) groups))),
            total,
            c.groups.invariant.room,
            c.groups.auto.into,
            c.requires.room,
          );
    })

pub groups-smaller : goal.groups-smaller
groups-smaller c =
    let groups = c.args.dag.now.heads.groups in
    let g = c.groups.g in
    let below : g < length groups = rw c.as_slice-groups.ensures at c.groups-test.true in
    let P : ℕ → Type 0 = λ n. IsNext groups (get_or groups g no_group).page (g + 1) n in
    let walk =
    subst P (sym c.next_group-g.ensures.group)
    (IsNext-next_on groups (get_or groups g no_group).page (length groups - (g + 1)) (g + 1) (omega arith)) in
    omega (arith, walk.from, below)

pub groups-preserved : goal.groups-preserved
groups-preserved c =
    let dag = c.args.dag.now in
    let groups = dag.heads.groups in
    let g = c.groups.g in
    let page = c.args.page in
    let below : g < length groups = rw c.as_slice-groups.ensures at c.groups-test.true in
    let here : (get_or groups g no_group).page ≡ page = c.groups.invariant.here below in
    let P : ℕ → Type 0 = λ n. IsNext groups page (g + 1) n in
    let next = c.next_group-g.ensures.group in
    let walk =
    subst P (sym (rw here at next)) (IsNext-next_on groups page (length groups - (g + 1)) (g + 1) (omega arith)) in
    let members = members-within dag.heads c.requires.laid_out.rules g below in
    let count = length-tris dag c.requires.laid_out.counts in
    let within : (group_at dag.heads g).first + (group_at dag.heads g).count ≤ length dag.tris =
    omega (arith, members, count) in
    let part =
    flat_map cluster_bytes (take (group_at dag.heads g).count (drop (group_at dag.heads g).first dag.tris)) in
    let rest = bytes_of dag (flat_map (members_of page) (drop c.next_group-g.result groups)) in
    let left : bytes_of dag (flat_map (members_of page) (drop g groups)) ≡ part ++ rest =
    bytes_of-left dag page g below here within ∙ ap (λ cs. part ++ bytes_of dag cs) walk.members in
    let ended = c.write_members-end.ensures.end in
    let wrote = c.write_members-end.ensures.written in
    let end : c.write_members-end.result ≡ c.groups.end + length part =
    rw (c.as_slice-groups.ensures, c.as_slice.ensures) at ended in
    let written : take c.write_members-end.result c.write_members-end.new.into ≡ take c.groups.end c.groups.into ++
    part = rw (c.as_slice-groups.ensures, c.as_slice.ensures) at wrote in
    record {
      within = walk.within;
      here = walk.here;
      room = omega (arith, ap length left, length-append part rest, end, c.groups.invariant.room);
      all = ap (λ xs. xs ++ rest) written ∙ append_assoc (take c.groups.end c.groups.into) part rest
          ∙ ap (λ xs. take c.groups.end c.groups.into ++ xs) (sym left) ∙ c.groups.invariant.all;
    }

pub returns : goal.returns
returns c =
    let dag = c.args.dag.now in
    let groups = dag.heads.groups in
    let page = c.args.page in
    let past : length groups ≤ c.groups.g = rw c.as_slice-groups.ensures at c.groups-test.false in
    let none : bytes_of dag (flat_map (members_of page) (drop c.groups.g groups)) ≡ [] =
    ap (λ gs. bytes_of dag (flat_map (members_of page) gs)) (drop_all c.groups.g groups past) in
    let total = length-groups-le dag c.requires.laid_out.rules c.requires.laid_out.counts page c.requires.page_range in
    let whole = bytes_of-groups dag c.requires.laid_out.rules page in
    record {
      end = omega (arith, ap length none, ap length whole, c.groups.invariant.room);
      written =
          sym (append-nil (take c.groups.end c.groups.into)) ∙
          ap (λ xs. take c.groups.end c.groups.into ++ xs) (sym none) ∙ c.groups.invariant.all ∙ whole;
      room = omega (arith, ap length none, total, c.groups.invariant.room);
    }
