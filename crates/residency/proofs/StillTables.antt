-- The tables after an entry that changes none of them, or only whether the journal has a Stop.
use Rattle.std.proofs.Common.{◌≡◌, ℕ, List, [], ◌∷◌, ◌++◌, true, is_some, refl, ap, arith}
use Rattle.journal.specs.declared.entries.Entry.{Entry}
use Rattle.journal.specs.declared.entries.What.TheVariants.{Full, Stop}
use Rattle.journal.specs.declared.layouts.Layout.{Layout}
use Rattle.pool_rules.specs.Rules.{owns}
use Rattle.pool_rules.specs.State.{State, state_after}
use Rattle.pool_tables.proofs.BegunFrames.{AreBegun-known, AreBegun-same}
use Rattle.pool_tables.proofs.EntryPages.{ArePagesOf-again}
use Rattle.pool_tables.proofs.EventPremises.{IsTimelyTable-later}
use Rattle.pool_tables.proofs.MakerMeanings.{AreMakers-other}
use Rattle.pool_tables.proofs.WantMeanings.{AreWants-kept}
use Rattle.residency.specs.declared.tables.Tables.{Tables}
use Rattle.residency.proofs.TablesAt.{AreTablesAt, owned-item}

pub AreTablesAt-full : (layout : Layout) (s : State) (journal : List Entry) (tables : Tables) (by frame : ℕ) →
    AreTablesAt layout s journal tables → owns s by frame ≡ true →
    AreTablesAt layout (state_after s (record { by = by; what = Full frame }))
    (journal ++ record { by = by; what = Full frame } ∷ []) tables
AreTablesAt-full layout s journal tables by frame are owned =
    let e : Entry = record { by = by; what = Full frame } in
    record {
      pages = ArePagesOf-again layout s (state_after s e) tables.pages refl refl refl are.pages;
      pins = are.pins;
      installs = λ p. omega (arith, are.installs p);
      loads = λ p. omega (arith, are.loads p);
      frames = are.frames;
      timely = IsTimelyTable-later s.entries tables.frames are.timely;
      begun = AreBegun-known journal e frame tables.frames.items are.begun refl
          (ap is_some (owned-item layout s journal tables by frame are owned).1);
      wants = AreWants-kept s.entries _ _ tables.wants.wants s.wants are.wants
          (record { loads = λ p. refl; asked = λ n. refl; ends = λ n. refl; last_asked = refl });
      waited = are.waited;
      makers = AreMakers-other journal s.loading s.loading tables.makers e are.makers refl (λ p m at. at);
      stopped = are.stopped;
    }

pub AreTablesAt-stop : (layout : Layout) (s : State) (journal : List Entry) (tables : Tables) (by : ℕ) →
    AreTablesAt layout s journal tables →
    AreTablesAt layout (state_after s (record { by = by; what = Stop }))
    (journal ++ record { by = by; what = Stop } ∷ []) (record tables { stopped = true })
AreTablesAt-stop layout s journal tables by are =
    let e : Entry = record { by = by; what = Stop } in
    record {
      pages = ArePagesOf-again layout s (state_after s e) tables.pages refl refl refl are.pages;
      pins = are.pins;
      installs = λ p. omega (arith, are.installs p);
      loads = λ p. omega (arith, are.loads p);
      frames = are.frames;
      timely = IsTimelyTable-later s.entries tables.frames are.timely;
      begun = AreBegun-same journal e tables.frames.items tables.frames.items are.begun refl (λ n. refl);
      wants = AreWants-kept s.entries _ _ tables.wants.wants s.wants are.wants
          (record { loads = λ p. refl; asked = λ n. refl; ends = λ n. refl; last_asked = refl });
      waited = are.waited;
      makers = AreMakers-other journal s.loading s.loading tables.makers e are.makers refl (λ p m at. at);
      stopped = refl;
    }
