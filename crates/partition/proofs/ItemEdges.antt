-- Lists of the edges of items, as one more item is added, as a shared edge ends, and when all are added.
use Rattle.std.proofs.Common.{◌≡◌, ◌≢◌, ◌<◌, ◌≤◌, ◌+◌, inl, inr, ℕ, List, [], ◌∷◌, ◌++◌, Option, Some, None, length}
use Rattle.std.proofs.Common.{get_or, set, refl, sym, ap, ◌∙◌, arith}
use Rattle.std.proofs.lemmas.List.{get_or_append_left, get_or_push, get_or-set_same, get_or-set_other, length-set}
use Rattle.std.proofs.lemmas.List.{length_push}
use Rattle.std.proofs.lemmas.List.Elements.{Contains-get_or}
use Rattle.std.proofs.lemmas.Bool.{cases_eq, cases_lt}
use Rattle.partition.specs.declared.edges_of_item.ItemEdge.{ItemEdge}
use Rattle.partition.specs.Internal.EdgesOfItem.{IsLastBefore, HasItemEdge, ListsEdgesUpTo}

-- an item further on changes nothing below
IsLastBefore-append : (items : List ℕ) (x item end : ℕ) (o : Option ℕ) → end ≤ length items →
    IsLastBefore items item end o →
    IsLastBefore (items ++ x ∷ []) item end o
IsLastBefore-append items x item end None within none =
    λ q h. rw (get_or_append_left items (x ∷ []) 0 q (omega arith)) (none q h)
IsLastBefore-append items x item end (Some p) within some = (
  some.0,
  rw (get_or_append_left items (x ∷ []) 0 p (omega arith)) some.1,
  λ q above h. rw (get_or_append_left items (x ∷ []) 0 q (omega arith)) (some.2 q above h),
)

-- another item at the end changes nothing
IsLastBefore-push_other : (items : List ℕ) (x item : ℕ) (o : Option ℕ) → x ≢ item →
    IsLastBefore items item (length items) o →
    IsLastBefore (items ++ x ∷ []) item (length (items ++ x ∷ [])) o
IsLastBefore-push_other items x item None other none =
    λ q h. elim (cases_lt q (length items)) [
      | inl below ↦ rw (get_or_append_left items (x ∷ []) 0 q below) (none q below)
      | inr past ↦ rw (get_or_push items x 0 q (omega (arith, length_push items x))) other
    ]
IsLastBefore-push_other items x item (Some p) other some = (
  omega (arith, length_push items x, some.0),
  rw (get_or_append_left items (x ∷ []) 0 p some.0) some.1,
  λ q above h. elim (cases_lt q (length items)) [
    | inl below ↦ rw (get_or_append_left items (x ∷ []) 0 q below) (some.2 q above below)
    | inr past ↦ rw (get_or_push items x 0 q (omega (arith, length_push items x))) other
  ],
)

-- the item itself at the end is its last
IsLastBefore-push_same : (items : List ℕ) (item : ℕ) →
    IsLastBefore (items ++ item ∷ []) item (length (items ++ item ∷ [])) (Some (length items))
IsLastBefore-push_same items item = (
  omega (arith, length_push items item),
  get_or_push items item 0 (length items) refl,
  λ q above h. absurd (omega (arith, length_push items item)),
)

HasItemEdge-push : (items : List ℕ) (item_edges : List ItemEdge) (x : ℕ) (item_edge : ItemEdge) (item edge : ℕ) →
    length items ≡ length item_edges →
    HasItemEdge items item_edges item edge → HasItemEdge (items ++ x ∷ []) (item_edges ++ item_edge ∷ []) item edge
HasItemEdge-push items item_edges x item_edge item edge whole is = (
  is.0,
  omega (arith, length_push items x, is.1),
  rw (get_or_append_left items (x ∷ []) 0 is.0 is.1) is.2,
  λ d. rw (get_or_append_left item_edges (item_edge ∷ []) d is.0 (omega (arith, is.1))) (is.3 d),
)

-- one more item of the shared edge `end`
pub ListsEdgesUpTo-more : (shared : List (List ℕ)) (count end upto : ℕ) (last : List (Option ℕ))
    (item_edges : List ItemEdge) (item : ℕ) (item_edge : ItemEdge)
    (last' : List (Option ℕ)) (item_edges' : List ItemEdge) →
    ListsEdgesUpTo shared count end upto last item_edges → end < length shared → upto < length (get_or shared end []) →
    get_or (get_or shared end []) upto 0 ≡ item →
    item < count → item_edge.edge ≡ end → item_edge.previous ≡ get_or last item None →
    last' ≡ set last item (Some (length item_edges)) →
    item_edges' ≡ item_edges ++ item_edge ∷ [] → ListsEdgesUpTo shared count end (upto + 1) last' item_edges'
ListsEdgesUpTo-more shared count end upto last item_edges item item_edge last' item_edges' is on_edges on_edge at_upto
    below edge_is previous_is last_is item_edges_is =
    let whole : length is.items ≡ length item_edges = is.whole in
    rw (last_is, item_edges_is) (record {
      items = is.items ++ item ∷ [];
      counted = length-set last item (Some (length item_edges)) ∙ is.counted;
      whole = omega (arith, length_push is.items item, length_push item_edges item_edge, is.whole);
      lasts = λ i h. elim (cases_eq item i) [
        | inl same ↦ rw (
          ← same,
          get_or-set_same last item (Some (length item_edges)) None (omega (arith, is.counted)),
          ← is.whole,
        ) (IsLastBefore-push_same is.items item)
        | inr other ↦ rw (get_or-set_other last item i (Some (length item_edges)) None (λ e. other (sym e)))
            (IsLastBefore-push_other is.items item i (get_or last i None) other (is.lasts i h))
      ];
      previous = λ p d h. elim (cases_lt p (length is.items)) [
        | inl before ↦ rw (
          get_or_append_left is.items (item ∷ []) 0 p before,
          get_or_append_left item_edges (item_edge ∷ []) d p (omega arith),
        )
            (IsLastBefore-append is.items item (get_or is.items p 0) p (get_or item_edges p d).previous (omega arith)
            (is.previous p d before))
        | inr past ↦
            let here : length is.items ≡ p = omega (arith, length_push is.items item) in
            rw (
              get_or_push is.items item 0 p here,
              get_or_push item_edges item_edge d p (omega arith),
              previous_is,
              ← here,
            ) (IsLastBefore-append is.items item item (length is.items) (get_or last item None) (omega arith)
            (is.lasts item below))
      ];
      sound = λ p d h. elim (cases_lt p (length is.items)) [
        | inl before ↦ rw (
          get_or_append_left is.items (item ∷ []) 0 p before,
          get_or_append_left item_edges (item_edge ∷ []) d p (omega arith),
        ) (is.sound p d before)
        | inr past ↦
            let here : length is.items ≡ p = omega (arith, length_push is.items item) in
            rw (
              get_or_push is.items item 0 p here,
              get_or_push item_edges item_edge d p (omega arith),
              edge_is,
              ← at_upto,
            ) (on_edges, Contains-get_or (get_or shared end []) upto 0 on_edge)
      ];
      complete = λ edge at in_all in_its entered. elim entered [
        | inl earlier ↦ HasItemEdge-push is.items item_edges item item_edge
            (get_or (get_or shared edge []) at 0) edge is.whole (is.complete edge at in_all in_its (inl earlier))
        | inr later ↦ elim (cases_lt at upto) [
          | inl before ↦ HasItemEdge-push is.items item_edges item item_edge
              (get_or (get_or shared edge []) at 0) edge is.whole
              (is.complete edge at in_all in_its (inr (later.0, before)))
          | inr past ↦
              let here : upto ≡ at = omega (arith, later.1) in
              rw (later.0, ← here, at_upto) (
                length is.items,
                omega (arith, length_push is.items item),
                get_or_push is.items item 0 (length is.items) refl,
                λ d. ap (λ (s : ItemEdge). s.edge) (get_or_push item_edges item_edge d (length is.items) (sym is.whole))
                    ∙ edge_is,
              )
        ]
      ];
    })

-- a shared edge ends, and the next one begins
pub ListsEdgesUpTo-next : (shared : List (List ℕ)) (count end upto : ℕ) (last : List (Option ℕ))
    (item_edges : List ItemEdge) →
    ListsEdgesUpTo shared count end upto last item_edges → length (get_or shared end []) ≤ upto →
    ListsEdgesUpTo shared count (end + 1) 0 last item_edges
ListsEdgesUpTo-next shared count end upto last item_edges is past =
    record {
      items = is.items;
      counted = is.counted;
      whole = is.whole;
      lasts = is.lasts;
      previous = is.previous;
      sound = is.sound;
      complete = λ edge at in_all in_its entered. elim entered [
        | inl earlier ↦ elim (cases_lt edge end) [
          | inl before ↦ is.complete edge at in_all in_its (inl before)
          | inr not_before ↦
              let here : edge ≡ end = omega arith in
              let in_end : at < length (get_or shared end []) = rw here at in_its in
              is.complete edge at in_all in_its (inr (here, omega arith))
        ]
        | inr later ↦ absurd (omega (arith, later.1))
      ];
    }

-- none is added
pub ListsEdgesUpTo-none : (shared : List (List ℕ)) (count : ℕ) (last : List (Option ℕ)) → length last ≡ count →
    ((i : ℕ) → i < count → get_or last i None ≡ None) → ListsEdgesUpTo shared count 0 0 last []
ListsEdgesUpTo-none shared count last counted none =
    record {
      items = [];
      counted = counted;
      whole = refl;
      lasts = λ i h. rw (none i h) (λ q below. absurd (omega arith));
      previous = λ p d h. absurd (omega arith);
      sound = λ p d h. absurd (omega arith);
      complete =
          λ edge at in_all in_its entered. elim entered
          [ inl earlier ↦ absurd (omega arith) | inr later ↦ absurd (omega (arith, later.1)) ];
    }
