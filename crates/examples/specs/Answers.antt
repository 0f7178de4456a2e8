-- What the code's answers are in the words of the definitions: an accepted answer and a refusal of each kind. The definitions that say so stand in
-- the contracts, and a version that turns a field in the code and in such a definition together is refused here.
use Rattle.std.specs.Prelude.{ℕ, ◌≡◌, Bool, true, false, Ok, Err, Some, None, [], ◌∷◌, map, replicate}
use Rattle.std.specs.NonZero.{non_zero_usize_get}
use Rattle.fields.specs.declared.fault.Fault.TheVariants.{PoseLength, Image, Bind, NotFound, NoRoom, FeedStopped, PanelFull, ClockBehind}
use Rattle.fields.specs.Answer.{Wrote, Refused, written_of, checked_of}
use Rattle.fields.specs.Received.{field_of}
use Rattle.pose.specs.declared.Transform.{Transform}
use Rattle.pose.specs.TransformReader.{no_transform, transform_read}
use Rattle.pose.specs.PositionReader.{position_read}
use Rattle.image.specs.declared.ImageHeader.{ImageHeader}
use Rattle.image.specs.ImageReader.{no_header, image_read}
use Rattle.metadata.specs.ValueLookup.{place_of}
use Rattle.bind_lookup.specs.declared.Source.TheVariants as found
use Rattle.bind_lookup.specs.ChildLookup.{count_answer, place_answer}
use Rattle.bind_lookup.specs.EitherLookup.{Site, Default, Neither, source_answer, either_answer}
use Rattle.message.specs.declared.MessageFields.{MessageFields}
use Rattle.message.specs.MessageWriter.{given, given_of}
use Rattle.message.specs.declared.Layout.{Layout}
use Rattle.message.specs.declared.Answer.{Answer}
use Rattle.feed.specs.declared.Feed as code
use Rattle.feed.specs.declared.State.TheVariants.{Keeping, Passing, Stopped}
use Rattle.feed.specs.Feed.{Feed, Nothing, Read, feed_of, push_answered}
use Rattle.feed.specs.Feed as pushing
use Rattle.feed.specs.Opening as opening
use Rattle.feed.specs.Opening.{opened_as}
use Rattle.panel.specs.declared.Panel as code_panel
use Rattle.panel.specs.declared.Label.{Label}
use Rattle.panel.specs.declared.Value.{Value}
use Rattle.panel.specs.declared.Looked.{Looked}
use Rattle.panel.specs.Records as adding
use Rattle.panel.specs.Tiles.{free_tile, no_value, tile_of}
use Rattle.panel.specs.Calls.{panel_of, add_result, call_result, look_result}

pub record Answers : Type 0 where
  -- a writer, a check, the reader of a text field
  pub written : map written_of (Ok 48 ∷ Err NoRoom ∷ []) ≡ Wrote 48 ∷ Refused 20 ∷ []
  pub checked : map checked_of (Ok true ∷ Ok false ∷ Err Bind ∷ [])
      ≡ record { number = 0; clean = true } ∷ record { number = 0; clean = false } ∷ record { number = 10; clean = false } ∷ []
  pub field : map field_of (Some (record { len = 3; clean = true }) ∷ Some (record { len = 4; clean = false }) ∷ None ∷ [])
      ≡ record { ok = true; len = 3; clean = true } ∷ record { ok = true; len = 4; clean = false } ∷ record { ok = false; len = 0; clean = false } ∷ []
  -- the readers of contents
  pub transform : (t : Transform) → transform_read (Ok t) ≡ record { number = 0; transform = t }
  pub no_transform_read : transform_read (Err PoseLength) ≡ record { number = 8; transform = no_transform }
  pub position : position_read (Ok (record { count = 3; words = 1 ∷ 2 ∷ 3 ∷ 0 ∷ 0 ∷ 0 ∷ 0 ∷ [] }))
      ≡ record { number = 0; count = 3; words = 1 ∷ 2 ∷ 3 ∷ 0 ∷ 0 ∷ 0 ∷ 0 ∷ [] }
  pub no_position : position_read (Err PoseLength) ≡ record { number = 8; count = 0; words = replicate 7 0 }
  pub image : (h : ImageHeader) → image_read (Ok h) ≡ record { number = 0; header = h }
  pub no_image : image_read (Err Image) ≡ record { number = 9; header = no_header }
  -- the look-ups
  pub value : map place_of (Ok (record { encoding = 3; at = 17; len = 5 }) ∷ Err NotFound ∷ [])
      ≡ record { number = 0; encoding = 3; at = 17; len = 5 } ∷ record { number = 19; encoding = 0; at = 0; len = 0 } ∷ []
  pub count : map count_answer (Ok (record { count = 2; clean = true }) ∷ Err Bind ∷ [])
      ≡ record { number = 0; count = 2; clean = true } ∷ record { number = 10; count = 0; clean = false } ∷ []
  pub place : map place_answer (Ok (record { at = 30; len = 48; clean = true }) ∷ Err NotFound ∷ [])
      ≡ record { number = 0; at = 30; len = 48; clean = true } ∷ record { number = 19; at = 0; len = 0; clean = false } ∷ []
  pub source : map source_answer (Some found.Site ∷ Some found.Default ∷ None ∷ []) ≡ Site ∷ Default ∷ Neither ∷ []
  pub either : map either_answer (Ok (record { source = found.Default; place = record { at = 30; len = 48; clean = true } }) ∷ Err NotFound ∷ [])
      ≡ record { number = 0; source = Default; at = 30; len = 48; clean = true } ∷ record { number = 19; source = Neither; at = 0; len = 0; clean = false } ∷ []
  -- what the writer of messages takes
  pub given_as : (m : MessageFields)
      → given_of m
      ≡ given (record { version = m.version; time_stamp = m.time_stamp; id = m.id }) m.type_text.now m.device_name.now m.further.now m.content.now m.metadata.now
  -- feeds
  pub kept : (l : Layout) (n k : ℕ) → feed_of (record { layout = l; room = n; state = Keeping k }) ≡ record { layout = l; room = n; kept = k; step = 0; left = 0; stopped = false }
  pub passing : (l : Layout) (n s : ℕ) (k : _)
      → feed_of (record { layout = l; room = n; state = Passing s k })
      ≡ record { layout = l; room = n; kept = 0; step = s; left = non_zero_usize_get k; stopped = false }
  pub stopped : (l : Layout) (n : ℕ) → feed_of (record { layout = l; room = n; state = Stopped }) ≡ record { layout = l; room = n; kept = 0; step = 0; left = 0; stopped = true }
  pub opened : (f : code.Feed) → opened_as (Ok f) ≡ opening.Opened (feed_of f)
  pub not_opened : opened_as (Err NoRoom) ≡ opening.Refused 20
  pub pushed : (f : code.Feed) (a : Answer) → push_answered f (Ok (record { taken = 7; read = Some a })) ≡ record { feed = feed_of f; answer = Read a; taken = 7 }
  pub waits : (f : code.Feed) → push_answered f (Ok (record { taken = 7; read = None })) ≡ record { feed = feed_of f; answer = Nothing; taken = 7 }
  pub not_pushed : (f : code.Feed) → push_answered f (Err FeedStopped) ≡ record { feed = feed_of f; answer = pushing.Refused 21; taken = 0 }
  -- the panel
  pub tile : (l : Label) (h t : ℕ) (v : Value) (s : Bool)
      → tile_of (Some (record { label = l; hold_time = h; last = Some (record { clock = t; value = v; since_link = s }) }))
      ≡ record { used = true; label = l; hold_time = h; counted = true; since_link = s; clock = t; value = v }
  pub new_tile : (l : Label) (h : ℕ)
      → tile_of (Some (record { label = l; hold_time = h; last = None }))
      ≡ record { used = true; label = l; hold_time = h; counted = false; since_link = false; clock = 0; value = no_value }
  pub no_tile : tile_of None ≡ free_tile
  pub panel : (p : code_panel.Panel) → panel_of p ≡ record { tiles = map tile_of p.tiles; link = p.link }
  pub added : (p : code_panel.Panel) → add_result p (Ok 3) ≡ record { panel = panel_of p; answer = adding.Added 3 }
  pub not_added : (p : code_panel.Panel) → add_result p (Err PanelFull) ≡ record { panel = panel_of p; answer = adding.Refused 18 }
  pub called : (p : code_panel.Panel) → call_result p (Ok tt) ≡ record { panel = panel_of p; number = 0 }
  pub not_called : (p : code_panel.Panel) → call_result p (Err ClockBehind) ≡ record { panel = panel_of p; number = 15 }
  pub looked : (p : code_panel.Panel) (r : Looked) → look_result p r ≡ record { panel = panel_of p; answer = r.answer; value = r.value }
