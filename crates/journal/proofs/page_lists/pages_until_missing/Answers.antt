use Rattle.std.proofs.Common.{ap, codes, ◌∙◌, ◌==◌, [], Some}
use Rattle.std.specs.Option.{option_map}
use Rattle.journal.proofs.Missing.{from_length, needed_dash, needed_empty, needed_none, needed_some, seen_none}
use Rattle.journal.proofs.Missing.{seen_some}
use Rattle.journal.specs.Grammar.{after_word}
use Rattle.journal.proofs.page_lists.pages_until_missing.Goals as goal

pub returns-in-Some-after_word : goal.returns-in-Some-after_word
returns-in-Some-after_word c =
    let first = c.in-Some.ensures ∙ ap (after_word (codes "-")) c.reborrow.ensures in
    let second = c.in-Some-after_word.ensures in
    let items = c.of.ensures ∙ c.new.ensures.items in
    ap (λ pages. Some (pages, c.in-Some-after_word.rest)) items
    ∙ ap (λ found. option_map (λ rest. ([], rest)) found) second
    ∙ needed_dash _ _ first

pub returns-in-None : goal.returns-in-None
returns-in-None c =
    let first = c.in-Some.ensures ∙ ap (after_word (codes "-")) c.reborrow.ensures in
    ap (λ found. option_map (λ rest. ([], rest)) found) c.in-None.ensures ∙ needed_dash _ _ first

pub returns-in_default-2 : goal.returns-in_default-2
returns-in_default-2 c =
    let first = c.in_default.ensures ∙ ap (after_word (codes "-")) c.reborrow.ensures in
    needed_none _ first (seen_none _ _ _ c.in_ok-numbers.ensures c.in_default-2.is)

pub returns-then-is_empty : goal.returns-then-is_empty
returns-then-is_empty c =
    let first = c.in_default.ensures ∙ ap (after_word (codes "-")) c.reborrow.ensures in
    let some = seen_some _ _ _ _ c.in_ok-numbers.ensures c.in-Some-2.is in
    needed_empty _ _ _ first some (from_length _ _
    (c.if-is_empty.ensures ∙ ap (λ len. len == 0) c.in-Some-2.numbers.ok.0))

pub returns : goal.returns
returns c =
    let first = c.in_default.ensures ∙ ap (after_word (codes "-")) c.reborrow.ensures in
    let some = seen_some _ _ _ _ c.in_ok-numbers.ensures c.in-Some-2.is in
    ap (λ pages. Some (pages, c.in-Some-2.rest)) c.of-2.ensures ∙
    needed_some _ _ _ first some (from_length _ _
    (c.if-is_empty.ensures ∙ ap (λ len. len == 0) c.in-Some-2.numbers.ok.0))
