mod Passes
mod Runnable
