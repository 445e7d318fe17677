pub mod ScriptCore
