use Rattle.std.proofs.Common.{◌≡◌, ◌∙◌, sym, subst, ap}
use Rattle.queue_replay.specs.Replay.{ReplayView}
use Rattle.audit_crew.specs.Tags.{IsTagOf, IsThrough, tag_of}
use Rattle.audit_crew.proofs.Reached.{tag_through}
use Rattle.audit_crew.proofs.underway.Underway.end.Goals as goal

pub returns-in-Ok-clause-posted : goal.returns-in-Ok-clause-posted
returns-in-Ok-clause-posted g c =
    let page = c.page.result in
    let told = g.S.ReservedShelf.told c.post.new.self in
    let through : IsThrough page told =
    subst (IsThrough page) (sym c.post.ensures.told)
    (subst (λ r. IsThrough r (g.S.ReservedShelf.told c.go_through.new.shelf))
    (sym c.page.ensures.same) c.in_ok-go_through.ensures.through) in
    let stream : page.stream ≡ c.args.self.replay.stream =
    ap (λ (r : ReplayView). r.stream) c.page.ensures.same ∙ c.in_ok-go_through.ensures.stream in
    let knobs : page.knobs ≡ c.args.self.replay.knobs =
    ap (λ (r : ReplayView). r.knobs) c.page.ensures.same ∙ c.in_ok-go_through.ensures.knobs in (
      tag_of page,
      c.in-Ok.ensures.added,
      subst (λ s. IsTagOf s c.args.self.replay.knobs told (tag_of page)) stream
          (subst (λ k. IsTagOf page.stream k told (tag_of page)) knobs
          (tag_through page told c.page.ensures.is_page through)),
    )

pub post-requires-clause-taken : goal.post-requires-clause-taken
post-requires-clause-taken g c =
    c.requires.taken c.page.result
    (ap (λ (r : ReplayView). r.stream) c.page.ensures.same ∙ c.in_ok-go_through.ensures.stream)
    (ap (λ (r : ReplayView). r.knobs) c.page.ensures.same ∙ c.in_ok-go_through.ensures.knobs)
