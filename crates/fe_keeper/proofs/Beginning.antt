-- A new store stands for the first state, and what formatting does to its disk.
use Rattle.std.proofs.Common.{◌≡◌, ◌⊎◌, inl, inr, ℕ, List, [], ◌∷◌, length, Err, refl, sym, ◌∙◌, subst, arith}
use Rattle.fe_journal.specs.Journal.{Formats}
use Rattle.fe_journal.specs.declared.fault.StoreFault.{StoreFault}
use Rattle.fe_journal.specs.declared.fault.StoreFault.TheVariants as store
use Rattle.fe_keeper.specs.within.Faults.{fault_of_store}
use Rattle.fe_keeper.specs.declared.fault.Fault.TheVariants.{Device, NoMemory, Unformatted}
use Rattle.std.specs.List.{AllByRecursion}
use Rattle.std.specs.Ordering.{nat_cmp}
use Rattle.std.specs.FinMap.{empty, entries, len-empty, len-entries}
use Rattle.fe_memory.specs.Memory.{out_of_memory}
use Rattle.fe_state.specs.Sessions.{Session}
use Rattle.fe_state.specs.State.{first_state}
use Rattle.fe_state.specs.declared.array.Array.{Array}
use Rattle.fe_state.proofs.Empty.{no_entries, empty_within}
use Rattle.fe_codec.specs.Image.{image_spelling, ArrayOfFormat, SessionOfFormat, ArrayFits, SessionFits}
use Rattle.fe_format.specs.declared.format.Format.TheVariants.{Two}
use Rattle.fe_journal.specs.Contents.{empty_image, first_contents}
use Rattle.fe_keeper.specs.Stands.{Stands}
use Rattle.fe_disk.specs.declared.disk.Disk.{Ghosts}

-- what formatting did to the disk, as a keeper tells its fault
pub formats_as : {D T U : Type 0} (model : Ghosts D) (fault : StoreFault) (old new : D)
    → Formats {T = T} model store.Unformatted store.Device (store.NoMemory out_of_memory) (Err fault) old new → Formats {T = U} model Unformatted Device (NoMemory out_of_memory) (Err (fault_of_store fault)) old new
formats_as model store.Unformatted old new h = record {
  wrong_size = (λ _. h.wrong_size.0 refl, λ _. refl);
  faults = inr (inl refl);
  fault = λ is. cc;
  untouched = λ _. h.untouched (λ is. cc);
  still = tt;
  made = tt;
  most = h.most;
  honesty = h.honesty;
  same_size = h.same_size;
}
formats_as model store.Device old new h = record {
  wrong_size = (λ is. cc, λ odd. let e = h.wrong_size.1 odd in cc);
  faults = inl refl;
  fault = λ _. h.fault refl;
  untouched = λ other. absurd (other refl);
  still = tt;
  made = tt;
  most = h.most;
  honesty = h.honesty;
  same_size = h.same_size;
}
formats_as model (store.NoMemory error) old new h = record {
  wrong_size = (λ is. cc, λ odd. let e = h.wrong_size.1 odd in cc);
  faults = inr (inr refl);
  fault = λ is. cc;
  untouched = λ _. h.untouched (λ is. cc);
  still = tt;
  made = tt;
  most = h.most;
  honesty = h.honesty;
  same_size = h.same_size;
}
formats_as model (store.Damaged offset) old new h = absurd (never h.faults)
  where
    never : (store.Damaged offset ≡ store.Device) ⊎ ((store.Damaged offset ≡ store.Unformatted) ⊎ (store.Damaged offset ≡ store.NoMemory out_of_memory)) → ⊥
    never (inl is) = cc
    never (inr (inl is)) = cc
    never (inr (inr is)) = cc

none_long : {X : Type 0} (es : List X) → length es ≡ 0 → es ≡ []
none_long [] e = refl
none_long (x ∷ es) e = absurd (omega arith)

no_sessions : entries (empty {X = Session} {R = nat_cmp}) ≡ []
no_sessions = none_long _ (sym (len-entries empty) ∙ len-empty nat_cmp Session)

spelled : empty_image ≡ image_spelling Two first_state
spelled = rw (no_entries, no_sessions, len-empty nat_cmp Array, len-empty nat_cmp Session) refl

pub first_stands : Stands (first_contents Two) first_state
first_stands = record {
  base = first_state;
  groups = [];
  fits = record {
    limits = empty_within 0 1 (omega arith) (omega arith) (omega arith);
    room = record {
      arrays = subst (λ (es : List (ℕ × Array)). AllByRecursion (ArrayOfFormat Two) es) (sym no_entries) tt;
      sessions = subst (λ (es : List (ℕ × Session)). AllByRecursion (SessionOfFormat Two) es) (sym no_sessions) tt;
    };
    arrays = subst (λ (es : List (ℕ × Array)). AllByRecursion ArrayFits es) (sym no_entries) tt;
    sessions = subst (λ (es : List (ℕ × Session)). AllByRecursion SessionFits es) (sym no_sessions) tt;
  };
  image_is = spelled;
  numbered = omega arith;
  groups_are = tt;
  legal = tt;
  state_is = refl;
}
