-- The command line (this project's format). How words go to arguments and options is clap's: its `matches_of` says, for
-- a command and the words, which values each argument has.
use Rattle.std.specs.Prelude.{◌≡◌, ℕ, ◌&&◌, Bool, IsTrue, IsFalse, List, [], ◌∷◌, Option, None, Some, true, false}
use Rattle.std.specs.Prelude.{codes, if◌then◌else◌, option_map, unwrap_or}
use Rattle.std.specs.List.{AllByRecursion}
use Rattle.std.specs.Option.{option_map_or}
use Rattle.std.specs.Str.{bytes_eq}
use Rattle.amount_words.specs.Amount.{amount_of}
use Rattle.cfs_model.specs.Knobs.{AreInRange, KnobsView, all_settings, settings_by, with_value}
use Rattle.cfs_model.specs.Options.{name_of_setting, standard_value}
use Rattle.cfs_model.specs.declared.setting.Setting.{Setting}
use Rattle.clap.specs.Walk.{Row, Rule, Text, first_of, one_of}
use Rattle.clap.specs.Simple.{App, matches_of, new_app, new_rule, on_top, with_rule}
use Rattle.clap.specs.declared.builder.action.ArgAction.TheVariants.{SetTrue}
use Rattle.audit_request.specs.declared.color.Color.{Color}
use Rattle.audit_request.specs.declared.color.Color.TheVariants.{Auto, Always, Never}
use Rattle.audit_request.specs.declared.request.Request.{Request}

-- a file's name, which has to be there
abbrev pub name_rule : Text → Rule
name_rule id = record (new_rule id) { required = true }

-- a setting's option, with one word
abbrev pub setting_rule : Setting → Rule
setting_rule which = record (new_rule (name_of_setting which)) { long = Some (name_of_setting which); value_names = 1 }

-- an option for each of these settings
abbrev pub with_settings : List Setting → App → App
with_settings [] app = app
with_settings (which ∷ settings) app = with_settings settings (with_rule app (setting_rule which))

-- an option of this name without a value
abbrev pub flag_rule : Text → Rule
flag_rule id = record (new_rule id) { long = Some id; action = Some SetTrue }

-- an option that doesn't go with these settings either
abbrev pub beside_none : List Setting → Rule → Rule
beside_none [] rule = rule
beside_none (which ∷ settings) rule = beside_none settings (record rule { is_free = false })

-- a flag that doesn't go with the settings
abbrev pub lone_flag_rule : Text → Rule
lone_flag_rule id = beside_none all_settings (flag_rule id)

-- an option with one word
abbrev pub word_rule : Text → Rule
word_rule id = record (new_rule id) { long = Some id; value_names = 1 }

-- a flag that doesn't go with another
abbrev pub parted_flag_rule : Text → Rule
parted_flag_rule id = record (flag_rule id) { is_free = false }

-- a command with the names of the two files; clap adds help and the version
abbrev pub with_names : App → App
with_names app =
    with_rule (with_rule (on_top (λ s. record s { has_version = true }) app)
    (name_rule (codes "TRACE"))) (name_rule (codes "COMPANION"))

-- a command with the flags of the report
abbrev pub with_flags : App → App
with_flags app =
    with_rule (with_rule (with_rule (with_rule app (lone_flag_rule (codes "least"))) (flag_rule (codes "waits")))
    (flag_rule (codes "explain"))) (flag_rule (codes "summary"))

-- a command with the file of states, the flag for JSON and the colour
abbrev pub with_words : App → App
with_words app =
    with_rule (with_rule (with_rule app (word_rule (codes "states"))) (parted_flag_rule (codes "json")))
    (word_rule (codes "color"))

-- the auditor's command
abbrev pub audit_app : App
audit_app = with_words (with_flags (with_settings all_settings (with_names (new_app (codes "sched_audit")))))

-- the amount that a setting's option says, in nanoseconds, or its default where the option isn't given
abbrev pub amount_for : List Row → Setting → Option ℕ
amount_for rows which = option_map_or amount_of (one_of (name_of_setting which) rows) (Some (standard_value which))

-- that amount, where there is one
abbrev pub setting_of : List Row → Setting → ℕ
setting_of rows which = unwrap_or (amount_for rows which) 0

-- each of these settings has an amount
abbrev pub HaveAmounts : List Row → List Setting → Type 0
HaveAmounts rows settings = AllByRecursion (λ which. amount_for rows which ≡ Some (setting_of rows which)) settings

-- the same settings but for these, of which each has the value that a function gives it
abbrev pub with_values : (Setting → ℕ) → List Setting → KnobsView → KnobsView
with_values value [] settings = settings
with_values value (which ∷ more) settings = with_values value more (with_value settings which (value which))

-- whether the flag is given
abbrev pub is_flagged : Text → List Row → Bool
is_flagged id rows = option_map_or (λ text. bytes_eq text (codes "true")) (one_of id rows) false

-- when the explanation has colour, by a word
abbrev pub color_of : Text → Option Color
color_of word =
    if bytes_eq word (codes "auto") then Some Auto else if bytes_eq word (codes "always") then Some Always
    else if bytes_eq word (codes "never") then Some Never else None

-- by its option, or on a terminal where the option isn't given
abbrev pub color_for : List Row → Option Color
color_for rows = option_map_or color_of (first_of (codes "color") rows) (Some Auto)

-- none of these settings is given
abbrev pub HaveNone : List Row → List Setting → Type 0
HaveNone rows settings = AllByRecursion (λ which. first_of (name_of_setting which) rows ≡ None) settings

-- none of the settings is given
abbrev pub HasNoSetting : List Row → Type 0
HasNoSetting rows = HaveNone rows all_settings

-- whether a name is that of standard input
abbrev pub is_input : Text → Bool
is_input name = bytes_eq name (codes "-")

-- the request has the names, the settings, the flags and the colour of these values, no setting is given beside the
-- flag of the least ones and no explanation beside JSON, and standard input isn't both files
pub record IsRequestOf (rows : List Row) (request : Request) : Type 0 where
  pub trace : first_of (codes "TRACE") rows ≡ Some request.trace.now
  pub companion : first_of (codes "COMPANION") rows ≡ Some request.companion.now
  pub amounts : HaveAmounts rows all_settings
  pub settings : request.knobs ≡ settings_by (setting_of rows)
  pub in_range : AreInRange (settings_by (setting_of rows))
  pub least : request.least ≡ is_flagged (codes "least") rows
  pub alone : IsTrue request.least → HasNoSetting rows
  pub waits : request.waits ≡ is_flagged (codes "waits") rows
  pub explain : request.explain ≡ is_flagged (codes "explain") rows
  pub summary : request.summary ≡ is_flagged (codes "summary") rows
  pub states : option_map (λ name. name.now) request.states ≡ first_of (codes "states") rows
  pub json : request.json ≡ is_flagged (codes "json") rows
  pub parted : IsFalse (request.json && request.explain)
  pub color : color_for rows ≡ Some request.color
  pub once : IsFalse (is_input request.trace.now && is_input request.companion.now)

-- the request is what these words ask for; the first word is the program's own name
abbrev pub IsAskedBy : List Text → Request → Type 0
IsAskedBy words = IsRequestOf (matches_of audit_app words)
