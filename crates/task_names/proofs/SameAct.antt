-- `==` of what events do answers whether they do the same.
use Rattle.std.proofs.Common.{◌≡◌, Bool, true, false, Decides, refl, sym, ◌∙◌}
use Rattle.std.proofs.lemmas.Bool.Decides.{Decides-eqb, Decides-int_eq, Decides-and, Decides-like}
use Rattle.cfs_model.specs.declared.act.Act.{Act}
use Rattle.cfs_model.specs.declared.act.Act.TheVariants.{Switch, Wake, Born, Shift}
use Rattle.cfs_model.specs.declared.act.Way.{Way}
use Rattle.cfs_model.specs.declared.act.Way.TheVariants.{Stays, Sleeps, Ends}
use Rattle.cfs_model.specs.contracts.act.ActPartialEq.TheImpl as act_eq
use Rattle.cfs_model.specs.contracts.act.WayPartialEq.TheImpl as way_eq

way_decides : (a b : Way) → Decides ((way_eq.ghosts).eq a b) (a ≡ b)
way_decides Stays Stays = (λ _. refl, λ _. refl)
way_decides Sleeps Sleeps = (λ _. refl, λ _. refl)
way_decides Ends Ends = (λ _. refl, λ _. refl)
way_decides a b = (λ h. cc, λ h. cc)

pub act_decides : (a b : Act) → Decides ((act_eq.ghosts).eq a b) (a ≡ b)
act_decides (Switch cpu prev prev_nice way next next_nice) (Switch cpu' prev' prev_nice' way' next' next_nice') =
    Decides-like _ (λ h. cc) (λ e. (cc, (cc, (cc, (cc, (cc, cc))))))
    (Decides-and _ _ (Decides-eqb cpu cpu') (Decides-and _ _ (Decides-eqb prev prev')
    (Decides-and _ _ (Decides-int_eq prev_nice prev_nice') (Decides-and _ _ (way_decides way way')
    (Decides-and _ _ (Decides-eqb next next') (Decides-int_eq next_nice next_nice'))))))
act_decides (Wake cpu pid nice) (Wake cpu' pid' nice') =
    Decides-like _ (λ h. cc) (λ e. (cc, (cc, cc)))
    (Decides-and _ _ (Decides-eqb cpu cpu') (Decides-and _ _ (Decides-eqb pid pid') (Decides-int_eq nice nice')))
act_decides (Born cpu pid nice) (Born cpu' pid' nice') =
    Decides-like _ (λ h. cc) (λ e. (cc, (cc, cc)))
    (Decides-and _ _ (Decides-eqb cpu cpu') (Decides-and _ _ (Decides-eqb pid pid') (Decides-int_eq nice nice')))
act_decides (Shift orig dest pid nice) (Shift orig' dest' pid' nice') =
    Decides-like _ (λ h. cc) (λ e. (cc, (cc, (cc, cc))))
    (Decides-and _ _ (Decides-eqb orig orig') (Decides-and _ _ (Decides-eqb dest dest')
    (Decides-and _ _ (Decides-eqb pid pid') (Decides-int_eq nice nice'))))
act_decides a b = (λ h. cc, λ h. cc)

pub act_is : (a b : Act) (answer : Bool) → answer ≡ (act_eq.ghosts).eq a b → answer ≡ true → a ≡ b
act_is a b answer is told = (act_decides a b).0 (sym is ∙ told)
