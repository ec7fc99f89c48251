-- The settings of a server, as a TOML document has them (`docs/settings.md`).
use Rattle.std.specs.Prelude.{ℕ, List, codes, ◌≡◌, ◌^◌, ◌||◌, ◌&&◌, ℤ, pos, Bool, true, false, nat_le}
use Rattle.std.specs.Prelude.{if◌then◌else◌, string_bytes, Option, Some, None, option_and_then}
use Rattle.fe_options.specs.declared.key.Key.{Key}
use Rattle.fe_options.specs.declared.key.Key.TheVariants as key
use Rattle.std.specs.Option.{option_map_or}
use Rattle.std.specs.Str.{bytes_eq}
use Rattle.toml.specs.Data.{Data, as_str, as_integer, as_bool, get_member, Members, no_members, member}
use Rattle.toml.specs.Parse.{parse_document}
use Rattle.fe_options.specs.declared.settings.Settings.{Settings}
use Rattle.fe_options.specs.declared.settings_fault.SettingsFault.{SettingsFault}
use Rattle.fe_options.specs.declared.settings_fault.SettingsFault.TheVariants as fault

-- the name of a key in a document
abbrev pub name_of : Key → List ℕ
name_of key.Socket = codes "socket"
name_of key.Store = codes "store"
name_of key.Connections = codes "connections"
name_of key.Format = codes "format"
name_of key.Accepts = codes "accepts"
name_of key.Turns = codes "turns"

-- the value at a key
abbrev pub value_of : Key → Members → Option Data
value_of k document = get_member (name_of k) document

-- the text at a key; None if there is none
abbrev pub text_of : Key → Members → Option (List ℕ)
text_of k document = option_and_then as_str (value_of k document)

-- the integer as a number, if it is within the bounds
abbrev pub within : ℕ → ℕ → ℤ → Option ℕ
within least most (pos n) = if nat_le least n && nat_le n most then Some n else None
within least most other = None

-- the value as a number, if it is an integer within the bounds
abbrev pub number_in : ℕ → ℕ → Data → Option ℕ
number_in least most value = option_and_then (within least most) (as_integer value)

-- the number at a key, or the default if the key is absent; None if the value is not a number within the
-- bounds
abbrev pub number_under : Key → ℕ → ℕ → ℕ → Members → Option ℕ
number_under k least most usual document =
    option_map_or (number_in least most) (value_of k document) (Some usual)

-- the flag at a key, or false if the key is absent; None if the value is not a boolean
abbrev pub flag_under : Key → Members → Option Bool
flag_under k document = option_map_or as_bool (value_of k document) (Some false)

-- there is a setting with this name
abbrev pub is_known : List ℕ → Bool
is_known name =
    bytes_eq name (codes "socket") || (bytes_eq name (codes "store") || (bytes_eq name (codes "connections")
    || (bytes_eq name (codes "format") || (bytes_eq name (codes "accepts")
    || bytes_eq name (codes "turns")))))

-- every key is the name of a setting
abbrev pub has_known_keys : Members → Bool
has_known_keys no_members = true
has_known_keys (member name value others) = is_known name && has_known_keys others

-- These are the settings of the document, which has no other keys.
pub record IsSettingsOf (document : Members) (s : Settings) : Type 0 where
  pub socket : text_of key.Socket document ≡ Some (string_bytes s.socket)
  pub store : text_of key.Store document ≡ Some (string_bytes s.store)
  pub connections : number_under key.Connections 1 256 64 document ≡ Some s.connections
  pub format : flag_under key.Format document ≡ Some s.format
  pub accepts : number_under key.Accepts 0 65536 0 document ≡ Some s.accepts
  pub turns : number_under key.Turns 1 (2 ^ 40) 1000000000 document ≡ Some s.turns
  pub known : has_known_keys document ≡ true

-- the value at this key is wrong
abbrev pub IsWrong : Key → Members → Type 0
IsWrong key.Socket document = text_of key.Socket document ≡ None
IsWrong key.Store document = text_of key.Store document ≡ None
IsWrong key.Connections document = number_under key.Connections 1 256 64 document ≡ None
IsWrong key.Format document = flag_under key.Format document ≡ None
IsWrong key.Accepts document = number_under key.Accepts 0 65536 0 document ≡ None
IsWrong key.Turns document = number_under key.Turns 1 (2 ^ 40) 1000000000 document ≡ None

-- the value at this key is not wrong
abbrev pub IsRight : Key → Members → Type 0
IsRight k document = IsWrong k document → ⊥

-- the two texts are right; then also the connections; then also the flag and the accepts
abbrev pub AreTextsRight : Members → Type 0
AreTextsRight document = IsRight key.Socket document × IsRight key.Store document

abbrev pub AreFirstRight : Members → Type 0
AreFirstRight document = AreTextsRight document × IsRight key.Connections document

abbrev pub AreMostRight : Members → Type 0
AreMostRight document = AreFirstRight document × (IsRight key.Format document × IsRight key.Accepts document)

-- the keys that are checked before this one are right
abbrev pub AreRightBefore : Key → Members → Type 0
AreRightBefore key.Socket document = Unit {0}
AreRightBefore key.Store document = IsRight key.Socket document
AreRightBefore key.Connections document = AreTextsRight document
AreRightBefore key.Format document = AreFirstRight document
AreRightBefore key.Accepts document = AreFirstRight document × IsRight key.Format document
AreRightBefore key.Turns document = AreMostRight document

-- The document is refused with this fault: its first wrong key, or, if no key is wrong, that it has a key
-- outside the settings. A lack of memory says nothing about the document.
abbrev pub RefusesDocument : Members → SettingsFault → Type 0
RefusesDocument document (fault.Setting k) = IsWrong k document × AreRightBefore k document
RefusesDocument document fault.UnknownKey =
    (has_known_keys document ≡ false) × (AreMostRight document × IsRight key.Turns document)
RefusesDocument document fault.Memory = Unit {0}
RefusesDocument document fault.NotToml = ⊥

-- The text is refused with this fault: it is not a document, or its document is refused. A lack of memory
-- says nothing about the text.
abbrev pub RefusesText : List ℕ → SettingsFault → Type 0
RefusesText text fault.NotToml = parse_document text ≡ None
RefusesText text fault.Memory = Unit {0}
RefusesText text other =
    (document : Members) × (parse_document text ≡ Some document) × RefusesDocument document other
