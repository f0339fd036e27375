use Rattle.stream_audit.proofs.joined_events.JoinedEvents.new.Goals as goal

pub returns-clause-joined : goal.returns-clause-joined
returns-clause-joined c = λ of head behind. record {
  head = head;
  joining = c.in_ok-joining.ensures of head behind;
  window = c.new-2.ensures;
}
