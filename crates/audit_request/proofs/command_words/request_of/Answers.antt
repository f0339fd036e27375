-- Each getter answers what the values of its argument are.
use Rattle.std.proofs.Common.{◌∙◌, sym, codes, rules}
use Rattle.clap.specs.Words.{found_of}
use Rattle.clap.proofs.WalkLemmas.{first_value-rows}
use Rattle.audit_request.proofs.command_words.request_of.Goals as goal

pub returns : goal.returns
returns c =
    let f = found_of c.args.matches.now in
    record {
      trace = sym (first_value-rows f (codes "TRACE")) ∙ sym c.in_ok-trace.ensures;
      companion = sym (first_value-rows f (codes "COMPANION")) ∙ sym c.in_ok-companion.ensures;
      amounts = c.in_ok-knobs_of.ensures.each;
      settings = c.in_ok-knobs_of.ensures.same;
      in_range = c.in_ok-knobs_of.ensures.in_range;
      least = c.in_ok-least.ensures;
      alone = search rules;
      waits = c.in_ok-flag_of.ensures;
      explain = c.in_ok-explain.ensures;
      summary = c.in_ok-flag_of-2.ensures;
      states = c.get_str-3.ensures ∙ first_value-rows f (codes "states");
      json = c.in_ok-json.ensures;
      parted = search rules;
      color = search rules;
      once = sym c.reads_input_twice.ensures ∙ c.if-reads_input_twice.false;
    }
