use Rattle.std.proofs.Common.{◌≡◌, vec_len, take}
use Rattle.cfs_model.specs.Claimed.{claimed}
use Rattle.sched_record.specs.RecordView.{policy_of}
use Rattle.sched_record.specs.Beside.{IsClaimIndex, IsNiceIndex, IsChargeIndex}
use Rattle.sched_record.specs.Record.{record_view}
use Rattle.ticket_book.specs.Cursor.{AreFollowed}
use Rattle.ticket_book.proofs.following.cursors_of.Given as goal

abbrev pub invariant-loop-index : goal.invariant-loop-index
invariant-loop-index l = record {
  count : vec_len l.cursors ≡ (record_view l.joined).cpus;
  claims : IsClaimIndex (record_view l.joined) l.index l.claim_index;
  nices : IsNiceIndex (record_view l.joined) l.index l.nice_index;
  charges : IsChargeIndex (record_view l.joined) l.index l.charge_index;
  followed : AreFollowed l.slots l.cursors.items
      (claimed (record_view l.joined).claims (record_view l.joined).nices (record_view l.joined).charges
      (policy_of (record_view l.joined))
      (take l.index (record_view l.joined).events));
}
