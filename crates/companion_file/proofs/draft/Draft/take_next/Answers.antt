use Rattle.std.proofs.Common.{w64, rules, refl, sym, ap, ◌∙◌}
use Rattle.std.proofs.lemmas.Int.{to_z-of_z}
use mir.Val.{SFits}
use Rattle.std.specs.Prelude.{codes}
use Rattle.text_parts.proofs.Runs.{text_taken}
use Rattle.companion_file.specs.Earlier.{Said}
use Rattle.companion_file.specs.Usual.{HasLine}
use Rattle.companion_file.proofs.Taking.{few_cpus}
use Rattle.companion_file.proofs.UsualLines.{claim_taken, charge_taken, rest_lines, rest_shorter}
use Rattle.companion_file.proofs.draft.Draft.take_next.Goals as goal

pub returns-in-Some-usual_fields : goal.returns-in-Some-usual_fields
returns-in-Some-usual_fields c =
    let claim = c.in-Some-usual_fields.claim in
    let text = c.args.text.now in
    let stands : HasLine (codes "at ") text claim.line claim.pid claim.v claim.rest.now =
    record {
      fields = c.in-Some-after_front.fields.now;
      begins = text_taken (codes "at ") text c.in-Some-after_front.fields.now c.in-Some-after_front.ensures;
      has = c.in-Some-usual_fields.ensures;
    } in
    let fits : SFits w64 claim.v = search rules in
    record {
      taken = claim_taken c.in-Some.version c.args.self.now c.say_claim-said.new.self text claim.rest.now claim.line
          claim.pid claim.v c.say_claim-said.result
          (sym (ap (λ (s : Said). s.version) c.self.view_is) ∙ c.in-Some.is)
          (rw (← c.self.view_is) (few_cpus c.self.inside.cpus c.self.invariant.few)) stands
          (rw (to_z-of_z w64 claim.v fits) at c.say_claim-said.ensures);
      lines = rest_lines (codes "at ") text claim.rest.now claim.line claim.pid claim.v c.requires.some refl
          stands;
      shorter = rest_shorter (codes "at ") text claim.rest.now claim.line claim.pid claim.v c.requires.some refl
          stands;
    }

pub returns-in_default-after_front : goal.returns-in_default-after_front
returns-in_default-after_front c =
    let charge = c.in-Some-usual_charge.charge in
    let text = c.args.text.now in
    let fits : SFits w64 charge.v = search rules in
    record {
      taken = charge_taken c.in-Some.version c.args.self.now c.say_charge-said.new.self text charge.rest.now charge.line
          charge.pid charge.v c.say_charge-said.result
          (sym (ap (λ (s : Said). s.version) c.self.view_is) ∙ c.in-Some.is) c.if-version-ge3.true
          (rw (← c.self.view_is) (few_cpus c.self.inside.cpus c.self.invariant.few)) c.in-Some-usual_charge.ensures
          (rw (to_z-of_z w64 charge.v fits) at c.say_charge-said.ensures);
      lines = rest_lines (codes "charge ") text charge.rest.now charge.line charge.pid charge.v c.requires.some refl
          c.in-Some-usual_charge.ensures;
      shorter = rest_shorter (codes "charge ") text charge.rest.now charge.line charge.pid charge.v c.requires.some refl
          c.in-Some-usual_charge.ensures;
    }
