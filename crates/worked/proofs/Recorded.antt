-- The journals of the worked days record their events.
use Rattle.std.proofs.Common.{ℕ, List, refl}
use Rattle.kinds.specs.Groups.{within, within_given}
use Rattle.kinds.specs.Labels.{label_class, label_read}
use Rattle.kinds.specs.Meaning.{label_keeps}
use Rattle.kinds.specs.Numbers.{groups_read, number_class, number_value}
use Rattle.kinds.specs.Readings.{Reading}
use Rattle.sources.specs.Format.{means, walk}
use Rattle.sources.proofs.Walked.{recorded}
use Rattle.topl.specs.Days.{applied, applied_labels, applied_other, gpr, gprz}
use Rattle.worked.specs.Journals.{Journals, gpr_bytes, gpr_events, gprz_bytes, gprz_events, label_bytes, label_events, number_bytes, number_events, other_bytes, other_events}

-- A number takes nine bytes at most.
pub number_keeps : (bs : List ℕ) → Reading 9 bs (number_value bs)
number_keeps bs = within_given bs (groups_read 8 bs) (within 8 bs)

-- What the walk over each journal finds is what it records.
pub numbers_recorded : Journals 1 number_value number_class number_bytes number_events applied
unfolding means walk groups_read
numbers_recorded = record { opens = refl; records = recorded number_value 9 number_keeps number_bytes 2; seen_as = refl }

pub other_recorded : Journals 1 number_value number_class other_bytes other_events applied_other
unfolding means walk groups_read
other_recorded = record { opens = refl; records = recorded number_value 9 number_keeps other_bytes 2; seen_as = refl }

pub gpr_recorded : Journals 1 number_value number_class gpr_bytes gpr_events gpr
unfolding means walk groups_read
gpr_recorded = record { opens = refl; records = recorded number_value 9 number_keeps gpr_bytes 2; seen_as = refl }

pub gprz_recorded : Journals 1 number_value number_class gprz_bytes gprz_events gprz
unfolding means walk groups_read
gprz_recorded = record { opens = refl; records = recorded number_value 9 number_keeps gprz_bytes 2; seen_as = refl }

pub labels_recorded : Journals 2 label_read label_class label_bytes label_events applied_labels
unfolding means walk groups_read label_read
labels_recorded = record { opens = refl; records = recorded label_read 17 label_keeps label_bytes 2; seen_as = refl }
