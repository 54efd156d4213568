pub mod GeneratedRun
