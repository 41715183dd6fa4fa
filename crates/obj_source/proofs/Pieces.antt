-- A piece of a text, taken in from mark to mark.
use Rattle.std.proofs.Common.{◌≡◌, ℕ, ◌+◌, ◌-◌, ◌<◌, ◌≤◌, Bool, true, false, cond, ltb, List, [], ◌∷◌, ◌++◌, length}
use Rattle.std.proofs.Common.{take, drop, get_or, Some, None, refl, ap, sym, subst, ◌∙◌, append_assoc, length-append}
use Rattle.std.proofs.Common.{arith}
use Rattle.std.specs.List.{All, position, position_or_len}
use Rattle.std.proofs.lemmas.List.{append-nil, take-append-drop, drop_more, length-take, get_or-take, take_rest}
use Rattle.std.proofs.lemmas.List.Quantifiers.{position-Some}
use Rattle.std.proofs.lemmas.List.Sums.{fails_before_first}
use Rattle.std.proofs.lemmas.Grind.{common_steps}
use Rattle.std.proofs.lemmas.Bool.Decides.{nat_tests}
use Rattle.obj_source.specs.declared.faults.ObjFault.{ObjFault}
use Rattle.obj_source.specs.declared.obj_scanner.ScanState.{ScanState}
use Rattle.obj_source.specs.declared.obj_scanner.ScanState.TheVariants.{First, Later, Skipping}
use Rattle.obj_source.specs.declared.obj_scanner.ObjScanner.{ObjScanner}
use Rattle.obj_source.specs.Scanner.{ends_word, ends_token, HasTaken, HasRoom, IsFirstFault, OnLineFault}
use Rattle.obj_source.proofs.TakenBytes.{OnLineFault-weaker}
use Rattle.obj_source.proofs.TextLines.{IsFirstFault-more}

-- these bytes more were taken in
abbrev pub TakesMore : ObjScanner → ObjScanner → List ℕ → Type 0
TakesMore old new bytes = (scale : ℕ) (text : List ℕ) → HasTaken old scale text → HasTaken new scale (text ++ bytes)

pub TakesMore-none : (scanner : ObjScanner) → TakesMore scanner scanner []
TakesMore-none scanner scale text t = rw (append-nil text) t

pub TakesMore-then : (old mid new : ObjScanner) (front more : List ℕ) → TakesMore old mid front →
    TakesMore mid new more → TakesMore old new (front ++ more)
TakesMore-then old mid new front more first second scale text t =
    subst (λ l. HasTaken new scale l) (append_assoc text front more) (second scale (text ++ front) (first scale text t))

-- the bytes of the piece before the rest were taken in
abbrev pub TakenBefore : ObjScanner → ObjScanner → List ℕ → List ℕ → Type 0
TakenBefore old new piece rest = (taken : List ℕ) × (piece ≡ taken ++ rest) × TakesMore old new taken

pub TakenBefore-none : (scanner : ObjScanner) (piece : List ℕ) → TakenBefore scanner scanner piece piece
TakenBefore-none scanner piece = ([], refl, TakesMore-none scanner)

pub TakenBefore-then : (old mid new : ObjScanner) (piece rest front behind : List ℕ) → rest ≡ front ++ behind →
    TakenBefore old mid piece rest → TakesMore mid new front → TakenBefore old new piece behind
TakenBefore-then old mid new piece rest front behind parted so_far more = (
  so_far.0 ++ front,
  so_far.1 ∙ ap (λ l. so_far.0 ++ l) parted ∙ sym (append_assoc so_far.0 front behind),
  TakesMore-then old mid new so_far.0 front so_far.2 more,
)

pub TakenBefore-all : (old new : ObjScanner) (piece : List ℕ) → TakenBefore old new piece [] → TakesMore old new piece
TakenBefore-all old new piece so_far =
    subst (λ l. TakesMore old new l) (sym (so_far.1 ∙ append-nil so_far.0)) so_far.2

-- what is left has room
pub HasRoom-before : (old new : ObjScanner) (piece rest : List ℕ) → HasRoom old (length piece) →
    TakenBefore old new piece rest → HasRoom new (length rest)
HasRoom-before old new piece rest room so_far = (
  room.0,
  room.1 ++ so_far.0,
  so_far.2 room.0 room.1 room.2,
  omega (arith, room.3, ap length so_far.1, length-append so_far.0 rest, length-append room.1 so_far.0),
)

pub HasRoom-fewer : (scanner : ObjScanner) (more fewer : ℕ) → HasRoom scanner more → fewer ≤ more →
    HasRoom scanner fewer
HasRoom-fewer scanner more fewer room le = (room.0, room.1, room.2, omega (arith, room.3, le))

-- a fault in what was left is the first one of the text with the whole piece
pub refused_before : (old mid : ObjScanner) (piece rest front behind : List ℕ) (fault : ObjFault) →
    rest ≡ front ++ behind → TakenBefore old mid piece rest →
    ((scale : ℕ) (text : List ℕ) → HasTaken mid scale text → OnLineFault (IsFirstFault scale (text ++ front)) fault) →
    (scale : ℕ) (text : List ℕ) → HasTaken old scale text → OnLineFault (IsFirstFault scale (text ++ piece)) fault
refused_before old mid piece rest front behind fault parted so_far refused scale text t =
    let whole : ((text ++ so_far.0) ++ front) ++ behind ≡ text ++ piece =
    append_assoc (text ++ so_far.0) front behind ∙ ap (λ l. (text ++ so_far.0) ++ l) (sym parted) ∙
    append_assoc text so_far.0 rest ∙ ap (λ l. text ++ l) (sym so_far.1) in
    OnLineFault-weaker (IsFirstFault scale ((text ++ so_far.0) ++ front)) (IsFirstFault scale (text ++ piece))
    (λ f first. subst (λ l. IsFirstFault scale l f) whole
    (IsFirstFault-more scale ((text ++ so_far.0) ++ front) behind f first)) fault
    (refused scale (text ++ so_far.0) (so_far.2 scale text t))

-- where no byte passes a test, and where the first stands that does
none_from : (at n : ℕ) → cond (ltb at n) (Some at) None ≡ None → n ≤ at
none_from at n e = grind (arith, common_steps, nat_tests)

pub position-None : (p : ℕ → Bool) (bytes : List ℕ) → position p bytes ≡ None → All (λ b. p b ≡ false) bytes
position-None p bytes e = λ k d h.
    let past = none_from (position_or_len p bytes) (length bytes) e in
    fails_before_first p bytes k d (omega arith)

pub position-before : (p : ℕ → Bool) (bytes : List ℕ) (at : ℕ) → position p bytes ≡ Some at →
    All (λ b. p b ≡ false) (take at bytes)
position-before p bytes at e = λ k d h.
    let before : k < at = omega (arith, length-take at bytes) in
    rw (get_or-take at bytes k d before) ((position-Some p bytes at d e).2 k before)

pub split_there : (bytes : List ℕ) (at : ℕ) → at < length bytes →
    bytes ≡ take at bytes ++ (get_or bytes at 0 ∷ drop (at + 1) bytes)
split_there bytes at inside =
    sym (take-append-drop at bytes) ∙ ap (λ l. take at bytes ++ l) (drop_more bytes at 0 inside)

-- what ends a part of a line ends a word
pub ends_either : (part : ScanState) (b : ℕ) → ends_token part b ≡ true → ends_word b ≡ true
ends_either First b e = e
ends_either Later b e = e
ends_either Skipping b e = grind (arith, common_steps, nat_tests)

-- the span before a mark was taken in
pub TakenBefore-span : (old mid new : ObjScanner) (piece rest : List ℕ) (at : ℕ) →
    Some at ≡ position (ends_token mid.state) rest → TakenBefore old mid piece rest →
    ((scale : ℕ) (text : List ℕ) → HasTaken mid scale text → All (λ b. ends_token mid.state b ≡ false) (take at rest) →
    HasTaken new scale (text ++ take at rest)) → TakenBefore old new piece (get_or rest at 0 ∷ drop (at + 1) rest)
TakenBefore-span old mid new piece rest at found so_far keeps =
    let there = position-Some (ends_token mid.state) rest at 0 (sym found) in
    TakenBefore-then old mid new piece rest (take at rest) (get_or rest at 0 ∷ drop (at + 1) rest)
    (split_there rest at there.0) so_far
    (λ scale text t. keeps scale text t (position-before (ends_token mid.state) rest at (sym found)))

-- a rest as slicing gives it
pub TakenBefore-rest : (old new : ObjScanner) (piece rest : List ℕ) (at : ℕ) →
    TakenBefore old new piece (drop (at + 1) rest) →
    TakenBefore old new piece (take (length rest - (at + 1)) (drop (at + 1) rest))
TakenBefore-rest old new piece rest at so_far = rw (take_rest rest (at + 1)) so_far

-- the last part of the piece, in which no mark stands
pub TakenBefore-end : (old mid new : ObjScanner) (piece rest : List ℕ) → None ≡ position (ends_token mid.state) rest →
    TakenBefore old mid piece rest → ((scale : ℕ) (text : List ℕ) → HasTaken mid scale text →
    All (λ b. ends_token mid.state b ≡ false) rest → HasTaken new scale (text ++ rest)) → TakesMore old new piece
TakenBefore-end old mid new piece rest none so_far keeps =
    TakenBefore-all old new piece (TakenBefore-then old mid new piece rest rest [] (sym (append-nil rest)) so_far
    (λ scale text t. keeps scale text t (position-None (ends_token mid.state) rest (sym none))))

pub mark_ends : (part : ScanState) (rest : List ℕ) (at : ℕ) → Some at ≡ position (ends_token part) rest →
    ends_word (get_or rest at 0) ≡ true
mark_ends part rest at found =
    ends_either part (get_or rest at 0) (position-Some (ends_token part) rest at 0 (sym found)).1
