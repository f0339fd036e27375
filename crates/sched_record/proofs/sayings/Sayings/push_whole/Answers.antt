use Rattle.std.proofs.Common.{[], ◌∷◌, ◌++◌, map, ap, ◌∙◌, arith}
use Rattle.sched_record.specs.Sayings.{saying_of}
use Rattle.sched_record.specs.declared.sayings.Said.TheVariants.{More}
use Rattle.sched_record.proofs.SayingsKept.{on_err, push_whole, same_sayings}
use Rattle.sched_record.proofs.sayings.Sayings.push_whole.Goals as goal

pub returns-in_err-push-2-clause-same : goal.returns-in_err-push-2-clause-same
returns-in_err-push-2-clause-same c =
    let old = c.self.inside in
    let more = old.more.items ++ c.args.saying ∷ [] in
    on_err c.from_residual-in_err-push-2.result
    (ap (λ m. map (saying_of m) c.push-2.new.self.items) c.in_ok-push.ensures.items
    ∙ ap (map (saying_of more)) c.in_err-push-2.ensures.items
    ∙ same_sayings old.more.items c.args.saying old.said.items old.within ∙ c.self.view_is)

pub returns-clause-added : goal.returns-clause-added
returns-clause-added c =
    let old = c.self.inside in
    let more = old.more.items ++ c.args.saying ∷ [] in
    ap (λ m. map (saying_of m) c.push-2.new.self.items) c.in_ok-push.ensures.items
    ∙ ap (map (saying_of more)) c.in_ok-push-2.ensures.items
    ∙ ap (λ place. map (saying_of more) (old.said.items ++ More place ∷ []))
    (let n = c.len-place.ensures in let k = old.more.ok in omega (arith, n, k))
    ∙ push_whole old.more.items c.args.saying old.said.items old.within
    ∙ ap (λ ss. ss ++ c.args.saying ∷ []) c.self.view_is
